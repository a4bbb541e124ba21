-- What follows from the definition of a script's calls. Assumes nothing.
use Rattle.std.specs.Prelude.{ℕ, zero, suc, ◌+◌, ◌*◌, ◌/◌, ◌≤◌, ◌<◌, ◌≡◌, refl, List, [], ◌∷◌, ◌++◌, length, take, drop}
use Rattle.std.proofs.Common.{ap, ◌∙◌, arith, zero-add, suc-add, div-add-mod', mod-lt, length-take, length-drop, drop-drop, drop_at, lt-ltb}
use Rattle.std.proofs.lemmas.List.{take-append-le, drop-append-le}
use Rattle.bus.specs.declared.machine.Call.TheVariants.{Malformed}
use Rattle.script.specs.Script.{record_length, call_in, calls}

pub length_calls : (n : ℕ) (script : List ℕ) → length (calls n script) ≡ n
length_calls zero script = refl
length_calls (suc n) script = ap suc (length_calls n (drop record_length script))

-- The records after the first n.
pub calls_add :
    (n k : ℕ) (script : List ℕ) → calls (n + k) script ≡ calls n script ++ calls k (drop (record_length * n) script)
calls_add zero k script = rw (zero-add k) refl
calls_add (suc n) k script =
    let further : record_length + record_length * n ≡ record_length * suc n = omega arith in
    let skipped : drop (record_length * n) (drop record_length script) ≡ drop (record_length * suc n) script =
    drop-drop (record_length * n) record_length script ∙ ap (λ (i : ℕ). drop i script) further in
    rw (suc-add n k, calls_add n k (drop record_length script), skipped) refl

-- A record is looked at no further than its length.
pub calls_front :
    (n : ℕ) (script rest : List ℕ) → record_length * n ≤ length script → calls n (script ++ rest) ≡ calls n script
calls_front zero script rest h = refl
calls_front (suc n) script rest h =
    let longer : record_length * n ≤ length (drop record_length script) = rw length-drop (omega arith) in
    rw (
      take-append-le record_length script rest (omega arith),
      drop-append-le record_length script rest (omega arith),
      calls_front n (drop record_length script) rest longer,
    ) refl

-- Two scripts, the first of whole records.
pub calls_append :
    (n k : ℕ) (script rest : List ℕ) → length script ≡ record_length * n →
    calls (n + k) (script ++ rest) ≡ calls n script ++ calls k rest
calls_append n k script rest e =
    rw (
      calls_add n k (script ++ rest),
      calls_front n script rest (omega arith),
      drop_at script rest (record_length * n) e,
    ) refl

-- A tail is a record that is cut short.
pub tail_malformed :
    (script : List ℕ) → calls 1 (drop (record_length * (length script / record_length)) script) ≡ Malformed ∷ []
unfolding call_in
tail_malformed script =
    let begun = record_length * (length script / record_length) in
    let left : length (drop begun script) < record_length =
    rw length-drop
    (omega (arith, div-add-mod' (length script) record_length, mod-lt (length script) {m = record_length} (omega arith))) in
    let short : length (take record_length (drop begun script)) < record_length = rw length-take (omega arith) in
    rw (lt-ltb (length (take record_length (drop begun script))) record_length short) refl
