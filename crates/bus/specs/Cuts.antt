-- Lists of calls of which some advances are cut: demand 3 (README.md), "Time may be cut anywhere".
use Rattle.std.specs.Prelude.{ℕ, ◌+◌, ◌≡◌, List, [], ◌∷◌, ◌++◌, map, length}
use Rattle.devices.specs.Gptimer.{add_pulses}
use Rattle.bus.specs.Machine.{Machine, Answer}
use Rattle.bus.specs.Call.{answer}
use Rattle.bus.specs.declared.machine.Call.{Call}
use Rattle.bus.specs.declared.machine.Call.TheVariants.{Advance}

-- Each item of such a list is a call as it is, or the spans that an advance is cut into: any that add up to its own, and for
-- an advance of 0 also none at all.
pub data Item : Type 0 where
  kept : Call → Item
  cut : (spans : List ℕ) → Item

abbrev pub total : List ℕ → ℕ
total [] = 0
total (span ∷ spans) = span + total spans

abbrev pub uncut_call : Item → Call
uncut_call (kept c) = c
uncut_call (cut spans) = Advance (total spans)

abbrev pub uncut_calls : List Item → List Call
uncut_calls es = map uncut_call es

abbrev pub cut_calls : List Item → List Call
cut_calls [] = []
cut_calls (kept c ∷ es) = c ∷ cut_calls es
cut_calls (cut spans ∷ es) = map Advance spans ++ cut_calls es

-- The answers to two spans, one after the other, as one: their cycles and each timer's pulses together, and the rest as the
-- second left it.
abbrev pub joined : Answer → Answer → Answer
joined a b =
    record {
      refusal = b.refusal;
      emitted = b.emitted;
      byte = b.byte;
      levels = b.levels;
      value = b.value;
      cycles = a.cycles + b.cycles;
      pulses = add_pulses a.pulses b.pulses;
      machine = b.machine;
    }

abbrev pub all_joined : Answer → List Answer → Answer
all_joined a [] = a
all_joined a (b ∷ rest) = joined a (all_joined b rest)

-- Those to the spans of one advance, from the machine `m` on. No span at all is an advance of 0.
abbrev pub together : (m : Machine) (parts : List Answer) → Answer
together m [] = answer (Advance 0) m
together m (a ∷ rest) = all_joined a rest

-- The answers to the cut list, from the machine `m` on, put together as those to the uncut list: those to the spans of an
-- advance become one, every other stays.
pub data Rejoined : List Item → (m : Machine) (cut uncut : List Answer) → Type 0 where
  end : {m : Machine} → Rejoined [] m [] []
  unchanged :
      {c : Call} {es : List Item} {m : Machine} {a : Answer} {rs ss : List Answer} → Rejoined es a.machine rs ss →
      Rejoined (kept c ∷ es) m (a ∷ rs) (a ∷ ss)
  put_together :
      {spans : List ℕ} {es : List Item} {m : Machine} (parts : List Answer) {rs ss : List Answer} →
      length parts ≡ length spans → Rejoined es (together m parts).machine rs ss →
      Rejoined (cut spans ∷ es) m (parts ++ rs) (together m parts ∷ ss)
