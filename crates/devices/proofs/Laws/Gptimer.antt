-- Theorems on the definitions of the timer unit, for every unit and spans of every length. Assumes nothing.
pub mod Direct
pub mod FromReset
pub mod Pulses
use Rattle.std.specs.Prelude.{◌≡◌, ℕ, zero, suc, ◌+◌, ◌-◌, ◌<◌, ◌≤◌, Bool, true, false, cond, ◌&&◌, ◌||◌, List, [], ◌∷◌, ◌==◌, slice_index, slice_index_or, refl}
use Rattle.std.proofs.Common.{ap, sym, ◌∙◌, true≢false, zero-add, suc-add, arith}
use Rattle.std.proofs.Math.Bool.{or-false, or-true, or_assoc}
use Rattle.std.proofs.Math.Decide.{dec_lt, ℕ_discrete}
use Rattle.devices.proofs.Laws.Cases.{chosen}
use Rattle.devices.specs.Refusal.{not_refused, no_register}
use Rattle.devices.proofs.Laws.Register.{ByOffset, by_offset, otherwise}
use Rattle.devices.specs.Answer.{Answer, refused}
use Rattle.devices.specs.Gptimer.{has_register, read, write}
use Rattle.devices.specs.Gptimer.{place, serve, underflows_now, count_underflows, counts_now, count}
use Rattle.devices.specs.Gptimer.{add_pulses, any_pulse, no_cycle, cycle_then, cycle, cycle_pulses, advance, skip}
use Rattle.devices.proofs.Laws.Gptimer.Pulses.{adds_assoc, any_add, any_none, none_advance}
use Rattle.devices.proofs.Laws.Gptimer.Pulses.{at_add, at_none, at_quiet, at_pulses}
use Rattle.devices.specs.declared.gptimer.Timer.{Timer}
use Rattle.devices.specs.declared.gptimer.Gptimer.{Gptimer}
use Rattle.devices.specs.declared.gptimer.Elapsed.{Elapsed}

-- An access is not refused where the offset has a register, and gets 13 where it has none.
abbrev pub Accepted : Answer Gptimer → Type 0
Accepted a = a.refusal ≡ not_refused

pub read_by_offset :
    (offset : ℕ) (u : Gptimer) → ByOffset Accepted (refused no_register u) (has_register offset) (read offset u)
unfolding read
read_by_offset offset u = rw (or_assoc, or_assoc, or_assoc) (search by_offset depth 20)

pub write_by_offset :
    (offset value : ℕ) (u : Gptimer) → ByOffset Accepted (refused no_register u) (has_register offset) (write offset value u)
unfolding write
write_by_offset offset value u = rw (or_assoc, or_assoc, or_assoc) (search by_offset depth 20)

-- A refused access changes nothing, and a read never does.
pub write_same :
    (offset value : ℕ) (u : Gptimer) → (Accepted (write offset value u) → ⊥) → (write offset value u).device ≡ u
write_same offset value u differs =
    ap (λ (a : Answer Gptimer). a.device) (otherwise Accepted _ _ _ (write_by_offset offset value u) differs)

pub read_same : (offset : ℕ) (u : Gptimer) → (read offset u).device ≡ u
unfolding read
read_same offset u = search either_left depth 20
  where
    either_left : (b : Bool) (x y : Answer Gptimer) → x.device ≡ u → y.device ≡ u → (cond b x y).device ≡ u
    either_left b x y e f = chosen (λ t (a : Answer Gptimer). a.device ≡ u) b x y e f

-- Two spans, one after the other.
abbrev pub consecutive : Elapsed → Elapsed → Elapsed
consecutive e f =
    record { cycles = e.cycles + f.cycles; pulses = add_pulses e.pulses f.pulses; unit = f.unit }

-- Time may be cut anywhere: advancing a and then b is advancing a + b, and each timer's pulses add up.
pub advance_cut : (a b : ℕ) (u : Gptimer) → advance (a + b) u ≡ consecutive (advance a u) (advance b (advance a u).unit)
unfolding advance
advance_cut zero b u = rw (zero-add, zero-add, none_advance b u) refl
advance_cut (suc a) b u = rw (suc-add, advance_cut a b (cycle u), suc-add, adds_assoc) refl

-- An advance passes its span.
pub advance_cycles : (n : ℕ) (u : Gptimer) → (advance n u).cycles ≡ n
unfolding advance
advance_cycles zero u = refl
advance_cycles (suc n) u = ap suc (advance_cycles n (cycle u))

-- "An idle skip takes a limit and passes the fewest cycles, one or more, whose last has a pulse; if there is none within
-- the limit it passes the limit." It is an advance by the cycles that it passes; they are no more than the limit; unless
-- the limit is 0 they are one or more; no fewer cycles have a pulse; and if they are fewer than the limit, the last of them
-- has one.
pub record Least (limit : ℕ) (u : Gptimer) (e : Elapsed) : Type 0 where
  pub advances : e ≡ advance e.cycles u
  pub within : e.cycles ≤ limit
  pub some : 0 < limit → 0 < e.cycles
  pub quiet : (k : ℕ) → k < e.cycles → any_pulse (advance k u).pulses ≡ false
  pub pulse : e.cycles < limit → any_pulse (cycle_pulses (advance (e.cycles - 1) u).unit) ≡ true

-- Cycles that have a pulse are one or more, and it is in fewer of them or in the last.
pulse_some : (n : ℕ) (u : Gptimer) → any_pulse (advance n u).pulses ≡ true → 0 < n
unfolding advance
pulse_some zero u e = absurd (true≢false (sym e ∙ any_none u.timers))
pulse_some (suc n) u e = omega arith

pulse_last :
    (n : ℕ) (u : Gptimer) → 0 < n →
    any_pulse (advance n u).pulses ≡
    (any_pulse (advance (n - 1) u).pulses || any_pulse (cycle_pulses (advance (n - 1) u).unit))
unfolding advance
pulse_last n u l =
    let whole : n ≡ n - 1 + 1 = omega arith in
    ap (λ (k : ℕ). any_pulse (advance k u).pulses) whole ∙
    rw (advance_cut (n - 1) 1 u, any_add, any_add, any_none, or-false) refl

-- It comes to the same if `pulse` speaks of all the cycles in place of the last.
module _ (limit : ℕ) (u : Gptimer) (e : Elapsed) where
  pub least_by :
      e ≡ advance e.cycles u → e.cycles ≤ limit →
      ((k : ℕ) → k < e.cycles → any_pulse (advance k u).pulses ≡ false) →
      (e.cycles < limit → any_pulse (advance e.cycles u).pulses ≡ true) → Least limit u e
  least_by advances within quiet pulse =
      record {
        advances = advances;
        within = within;
        some = λ l. elim (dec_lt 0 e.cycles) [ yes m ↦ m | no m ↦ later (omega arith) ];
        quiet = quiet;
        pulse = λ l. rw (pulse_last e.cycles u (later l), quiet (e.cycles - 1) (omega (arith, later l))) at (pulse l);
      }
    where
      later : e.cycles < limit → 0 < e.cycles
      later l = pulse_some e.cycles u (pulse l)

  least_pulse : Least limit u e → e.cycles < limit → any_pulse (advance e.cycles u).pulses ≡ true
  least_pulse p l = rw (pulse_last e.cycles u (p.some (omega arith)), p.pulse l, or-true) refl

pub skip_least : (limit : ℕ) (u : Gptimer) → Least limit u (skip limit u)
unfolding skip advance
skip_least zero u =
    least_by zero u _ refl (omega arith) (λ k l. absurd (omega arith)) (λ l. absurd (omega arith))
skip_least (suc n) u = by_test (any_pulse (cycle_pulses u)) refl (skip_least n (cycle u))
  where
    first :
        (b : Bool) (k : ℕ) → any_pulse (cycle_pulses u) ≡ b →
        any_pulse (advance (suc k) u).pulses ≡ (b || any_pulse (advance k (cycle u)).pulses)
    first b k e = rw (any_add, e) refl

    by_test :
        (b : Bool) → any_pulse (cycle_pulses u) ≡ b → Least n (cycle u) (skip n (cycle u)) →
        Least (suc n) u (cycle_then u (cond b (no_cycle (cycle u)) (skip n (cycle u))))
    by_test true e r =
        least_by (suc n) u _ refl (omega arith)
        (λ k l. let z : k ≡ 0 = omega arith in rw z (any_none u.timers)) (λ l. first true 0 e)
    by_test false e r =
        least_by (suc n) u _ (ap (cycle_then u) r.advances) (omega (arith, r.within)) quiet
        (λ l. first false (skip n (cycle u)).cycles e ∙ least_pulse n (cycle u) _ r (omega arith))
      where
        quiet : (k : ℕ) → k < suc (skip n (cycle u)).cycles → any_pulse (advance k u).pulses ≡ false
        quiet zero l = any_none u.timers
        quiet (suc k) l = first false k e ∙ r.quiet k (omega arith)

-- No other span does so.
pub least_unique : (limit : ℕ) (u : Gptimer) (e f : Elapsed) → Least limit u e → Least limit u f → e ≡ f
least_unique limit u e f p q =
    elim (ℕ_discrete e.cycles f.cycles) [
      | yes same ↦ p.advances ∙ ap (λ (n : ℕ). advance n u) same ∙ sym q.advances
      | no other ↦
          absurd
          (elim (dec_lt e.cycles f.cycles) [
            | yes l ↦ sooner e f p q l
            | no l ↦ sooner f e q p (omega arith)
          ])
    ]
  where
    sooner : (e f : Elapsed) → Least limit u e → Least limit u f → e.cycles < f.cycles → ⊥
    sooner e f p q l =
        let reaches : f.cycles ≤ limit = q.within in
        true≢false (sym (least_pulse limit u e p (omega arith)) ∙ q.quiet e.cycles l)

-- A skip ends at its first pulse, so each timer has one pulse or none in it.
pub skip_pulses : (limit i : ℕ) (u : Gptimer) → slice_index (skip limit u).pulses i ≤ 1
unfolding skip
skip_pulses zero i u = rw (at_none i u.timers) (omega arith)
skip_pulses (suc n) i u = rw at_add (by_test (any_pulse (cycle_pulses u)) refl (skip_pulses n i (cycle u)))
  where
    by_test :
        (b : Bool) → any_pulse (cycle_pulses u) ≡ b → slice_index (skip n (cycle u)).pulses i ≤ 1 →
        slice_index (cycle_pulses u) i + slice_index (cond b (no_cycle (cycle u)) (skip n (cycle u))).pulses i ≤ 1
    by_test true e few = rw (at_none i (cycle u).timers) (omega (arith, at_pulses i u))
    by_test false e few = rw (at_quiet i (cycle_pulses u) e) (omega arith)

-- Whether the timer at place i underflows in the next cycle, and in n cycles.
abbrev pub serve_underflows : Bool → List Timer → List Bool
serve_underflows b [] = []
serve_underflows b (t ∷ ts) = underflows_now b t ∷ serve_underflows (underflows_now b t) ts

abbrev pub underflows_next : ℕ → Gptimer → Bool
underflows_next i u = u.scaler == 0 && slice_index_or (serve_underflows true u.timers) i false

unfoldable pub underflows_within : ℕ → ℕ → Gptimer → Bool
underflows_within zero i u = false
underflows_within (suc n) i u = underflows_next i u || underflows_within n i (cycle u)

abbrev pub ip_at : ℕ → Gptimer → Bool
ip_at i u = (place u.timers i).ip

count_ip : (t : Timer) → (count t).ip ≡ (t.ip || count_underflows t)
unfolding count
count_ip t =
    chosen (λ b (x : Timer). x.ip ≡ (t.ip || b)) (count_underflows t) _ _ (sym (or-true t.ip)) (sym (or-false t.ip))

serve_ip :
    (i : ℕ) (b : Bool) (ts : List Timer) →
    (place (serve b ts) i).ip ≡ ((place ts i).ip || slice_index_or (serve_underflows b ts) i false)
serve_ip i b [] = refl
serve_ip zero b (t ∷ ts) =
    chosen (λ c (x : Timer). x.ip ≡ (t.ip || (c && count_underflows t))) (counts_now b t) _ _ (count_ip t)
    (sym (or-false t.ip))
serve_ip (suc i) b (t ∷ ts) = serve_ip i (underflows_now b t) ts

cycle_ip : (i : ℕ) (u : Gptimer) → ip_at i (cycle u) ≡ (ip_at i u || underflows_next i u)
unfolding cycle
cycle_ip i u =
    chosen (λ b (x : Gptimer). ip_at i x ≡ (ip_at i u || (b && slice_index_or (serve_underflows true u.timers) i false)))
    (u.scaler == 0) _ _ (serve_ip i true u.timers) (sym (or-false (ip_at i u)))

-- IP is set after a span exactly if it was set before or the timer underflowed in the span. (A skip is such a span: it is
-- an advance by the cycles that it passes, `Least.advances`.)
pub advance_ip : (n i : ℕ) (u : Gptimer) → ip_at i (advance n u).unit ≡ (ip_at i u || underflows_within n i u)
unfolding advance underflows_within
advance_ip zero i u = sym (or-false (ip_at i u))
advance_ip (suc n) i u = rw (advance_ip n i (cycle u), cycle_ip i u) (or_assoc (ip_at i u) (underflows_next i u) _)
