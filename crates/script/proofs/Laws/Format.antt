-- What follows from the definition of a file's refusal. Assumes nothing.
use Rattle.std.specs.Prelude.{ℕ, suc, ◌≤◌, ◌<◌, ◌≡◌, refl, List, [], ◌∷◌, eqb, ltb, length, take, drop}
use Rattle.std.proofs.Common.{arith, take-add, le-ltb, ltb-false, eqb-true}
use Rattle.devices.proofs.Laws.Cases.{tested}
use Rattle.devices.specs.Refusal.{not_refused}
use Rattle.script.specs.Number.{byte, number, encoded}
use Rattle.script.proofs.Laws.Number.{encoded_number}
use Rattle.script.specs.Format.{script, log, header, header_length, refusal, number_of}
use Rattle.script.specs.declared.format.Format.{Format}
use Rattle.script.specs.declared.format.Reason.{Reason}
use Rattle.script.specs.declared.format.Reason.TheVariants.{BadFile, BadVersion}

-- A file is judged by its header.
pub refusal_front : (f : Format) (file : List ℕ) → refusal f (take header_length file) ≡ refusal f file
unfolding number
refusal_front f [] = refl
refusal_front f (a ∷ []) = refl
refusal_front f (a ∷ b ∷ []) = refl
refusal_front f (a ∷ b ∷ c ∷ []) = refl
refusal_front f (a ∷ b ∷ c ∷ d ∷ []) = refl
refusal_front f (a ∷ b ∷ c ∷ d ∷ e ∷ rest) =
    rw (le-ltb (suc (suc (suc (suc (suc (length rest)))))) header_length (omega arith)) refl

-- A file that begins with its header is accepted.
pub own_header : (refusal script (header script) ≡ not_refused) × (refusal log (header log) ≡ not_refused)
unfolding number encoded
own_header = (refl, refl)

-- No reason for a refusal has the number of none.
pub refused_number : (reason : Reason) → number_of reason ≡ not_refused → ⊥
refused_number BadFile e = absurd (omega arith)
refused_number BadVersion e = absurd (omega arith)

-- An accepted file begins with its header.
pub accepted_header :
    (f : Format) (file : List ℕ) → ((n : ℕ) → byte n file < 256) → refusal f file ≡ not_refused →
    take header_length file ≡ header f
accepted_header f file b e =
    tested (ltb (length file) header_length) (λ t. let z = rw t at e in absurd (omega (arith, z)))
    (λ t.
    tested (eqb (number 0 3 file) f.mark)
    (λ u.
    tested (eqb (number 3 2 file) f.version)
    (λ w.
    let long : header_length ≤ length file = ltb-false (length file) header_length t in
    let mark : encoded 3 f.mark ≡ take 3 file =
    rw (← eqb-true (number 0 3 file) f.mark u) (encoded_number 0 3 file b (omega arith)) in
    let version : encoded 2 f.version ≡ take 2 (drop 3 file) =
    rw (← eqb-true (number 3 2 file) f.version w) (encoded_number 3 2 file b (omega arith)) in
    rw (mark, version) (take-add 3 2 file))
    (λ w. let z = rw (t, u, w) at e in absurd (omega (arith, z))))
    (λ u. let z = rw (t, u) at e in absurd (omega (arith, z))))
