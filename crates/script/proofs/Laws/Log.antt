-- What follows from the definition of a log record. Assumes nothing.
use Rattle.std.specs.Prelude.{ℕ, suc, ◌+◌, ◌*◌, ◌^◌, ◌<◌, ◌≡◌, refl, cond, List, [], ◌∷◌, ◌++◌, map, length, take, drop}
use Rattle.std.proofs.Common.{sym, ap, ◌∙◌, append_assoc, arith, length-append, take_at, drop_at, take-take, take-add}
use Rattle.devices.proofs.Laws.Cases.{chosen}
use Rattle.bus.specs.Machine.{Answer, pulses_of}
use Rattle.script.specs.Number.{number, encoded}
use Rattle.script.proofs.Laws.Number.{number_encoded}
use Rattle.script.specs.Log.{entry_length, entry, layout, entries}
use Rattle.script.specs.declared.entry.Part.{Part}
use Rattle.script.specs.declared.entry.Field.{Field}
use Rattle.script.specs.declared.entry.Field.TheVariants.{Number, Emitted, Levels, Value, Cycles, Pulses}

pub length_entry : (a : Answer) → length (entry a) ≡ entry_length
unfolding encoded entry
length_entry a = refl

-- Cut by the table, a log record gives the bytes of each field that the table names, and nothing is left.
abbrev pub field_of : Field → Answer → List ℕ
field_of Number a = encoded 1 a.refusal
field_of Emitted a = encoded 1 (cond a.emitted 1 0) ++ encoded 1 a.byte
field_of Levels a = encoded 1 a.levels
field_of Value a = encoded 4 a.value
field_of Cycles a = encoded 8 a.cycles
field_of (Pulses n) a = encoded 8 (pulses_of n a)

abbrev pub parts : List Part → List ℕ → List (List ℕ)
parts [] bytes = bytes ∷ []
parts (p ∷ ps) bytes = take p.width bytes ∷ parts ps (drop p.width bytes)

pub entry_parts : (a : Answer) → parts layout (entry a) ≡ map (λ (p : Part). field_of p.field a) layout ++ ([] ∷ [])
unfolding encoded entry
entry_parts a = refl

pub length_entries : (rs : List Answer) → length (entries rs) ≡ entry_length * length rs
length_entries [] = refl
length_entries (a ∷ rs) = rw (length-append, length_entry a, length_entries rs) (omega arith)

pub entries_append : (xs ys : List Answer) → entries (xs ++ ys) ≡ entries xs ++ entries ys
entries_append [] ys = refl
entries_append (a ∷ xs) ys = rw (entries_append xs ys, append_assoc) refl

-- Log records that stand at the start of a log, one after the other.
pub first_entry :
    (n : ℕ) (bytes rest : List ℕ) (a : Answer) → take (entry_length * suc n) bytes ≡ entry a ++ rest →
    (take entry_length bytes ≡ entry a) × (take (entry_length * n) (drop entry_length bytes) ≡ rest)
first_entry n bytes rest a e =
    let more : entry_length * suc n ≡ entry_length + entry_length * n = omega arith in
    let front : take entry_length bytes ≡ entry a =
    sym (take-take entry_length (entry_length * suc n) bytes (omega arith)) ∙ ap (take entry_length) e ∙
    take_at (entry a) rest entry_length (length_entry a) in
    let parts : entry a ++ take (entry_length * n) (drop entry_length bytes) ≡ entry a ++ rest =
    rw (← front, ← take-add entry_length (entry_length * n) bytes, ← more) (e ∙ rw front refl) in (
      front,
      sym (drop_at (entry a) (take (entry_length * n) (drop entry_length bytes)) entry_length (length_entry a)) ∙
          ap (drop entry_length) parts ∙ drop_at (entry a) rest entry_length (length_entry a),
    )

-- A log record gives back what it was made of, where each number keeps to its width, as those of the code's answers do.
pub entry_fields :
    (a : Answer) → a.refusal < 256 → a.byte < 256 → a.levels < 256 → a.value < 256 ^ 4 → a.cycles < 256 ^ 8 →
    ((n : ℕ) → pulses_of n a < 256 ^ 8) →
    (number 0 1 (entry a) ≡ a.refusal) × (number 1 1 (entry a) ≡ cond a.emitted 1 0) ×
    (number 2 1 (entry a) ≡ a.byte) × (number 3 1 (entry a) ≡ a.levels) × (number 4 4 (entry a) ≡ a.value) ×
    (number 8 8 (entry a) ≡ a.cycles) × (number 16 8 (entry a) ≡ pulses_of 1 a) × (number 24 8 (entry a) ≡ pulses_of 2 a) ×
    (number 32 8 (entry a) ≡ pulses_of 3 a) × (number 40 8 (entry a) ≡ pulses_of 4 a)
unfolding number encoded entry
entry_fields a refusal byte levels value cycles pulses = (
  number_encoded 1 a.refusal refusal,
  number_encoded 1 (cond a.emitted 1 0) (chosen (λ b (n : ℕ). n < 256) a.emitted 1 0 (omega arith) (omega arith)),
  number_encoded 1 a.byte byte,
  number_encoded 1 a.levels levels,
  number_encoded 4 a.value value,
  number_encoded 8 a.cycles cycles,
  number_encoded 8 (pulses_of 1 a) (pulses 1),
  number_encoded 8 (pulses_of 2 a) (pulses 2),
  number_encoded 8 (pulses_of 3 a) (pulses 3),
  number_encoded 8 (pulses_of 4 a) (pulses 4),
)
