-- What is claimed of comparing two logs: paper 02, No. 1. Assumes nothing.
use Rattle.std.specs.Prelude.{ℕ, ◌+◌, ◌*◌, ◌<◌, ◌≡◌, refl, false, List, length, drop}
use Rattle.std.proofs.Common.{sym, ap, ◌∙◌, take-append-drop}
use Rattle.devices.specs.Refusal.{not_refused}
use Rattle.script.specs.Format.{log, header_length, refusal}
use Rattle.script.proofs.Laws.Format.{accepted_header}
use Rattle.script.specs.Number.{byte}
use Rattle.script.specs.Log.{entry_length}
use Rattle.compare.specs.Verdict.{partial, on_records, verdict}
use Rattle.compare.proofs.Laws.Verdict.{whole_records_equal, self_equal}
use Rattle.compare.specs.Comparison as comparisons
use Rattle.compare.specs.Comparison.{largest, saturated, end}
use Rattle.compare.proofs.Laws.Comparison as laws
use Rattle.compare.specs.Pieces.{ComesTo, next_pieces, known, first_ended, second_ended, at_the_end, Compared}
use Rattle.compare.specs.declared.comparison.Comparison.{Comparison}
use Rattle.compare.specs.declared.verdict.Verdict.{Verdict}
use Rattle.compare.specs.declared.verdict.Verdict.TheVariants.{Equal}

comes_to_end :
    {c : Comparison} {records records' : List ℕ} {v : Verdict} → ComesTo c records records' v → v ≡ end c records records'
unfolding comparisons.next
comes_to_end (next_pieces piece more piece' more' {c} e t rest) =
    comes_to_end rest ∙ rw (e, t) (sym (laws.next_step c piece piece' more more'))
comes_to_end known = refl
comes_to_end (first_ended records piece more {c} e rest) =
    comes_to_end rest ∙ rw e (sym (laws.second_surplus c records piece more))
comes_to_end (second_ended piece more records' {c} e rest) =
    comes_to_end rest ∙ rw e (sym (laws.first_surplus c records' piece more))
comes_to_end (at_the_end e) = e

-- "Logs are longer than memory; where its pieces fall may not change its verdict." However the two logs are cut into pieces,
-- each in its own way and anywhere, the verdict is that of the whole files, except that a record's number above 2^64 - 1 is
-- given as 2^64 - 1.
pub verdict_claim : (first second : List ℕ) {v : Verdict} → Compared first second v → v ≡ saturated (verdict first second)
verdict_claim first second c =
    comes_to_end c.goes ∙
    rw c.begins (laws.begun_end first second c.given c.given' c.header c.header')

-- Where the first log has fewer than 2^64 records, as every file has, it is exactly that of the whole files.
pub exact_claim :
    (first second : List ℕ) {v : Verdict} → length first < entry_length * (largest + 1) → Compared first second v →
    v ≡ verdict first second
exact_claim first second h c = verdict_claim first second c ∙ laws.verdict_exact first second h

-- "So of two accepted logs without partial records it says equal exactly when all bytes are equal." A file is a list of bytes,
-- numbers below 256.
pub record WholeLog (file : List ℕ) : Type 0 where
  pub bytes : (n : ℕ) → byte n file < 256
  pub accepted : refusal log file ≡ not_refused
  pub whole : partial (drop header_length file) ≡ false

module _ (first second : List ℕ) (a : WholeLog first) (b : WholeLog second) where
  by_records : verdict first second ≡ on_records (drop header_length first) (drop header_length second)
  by_records = rw (a.accepted, b.accepted) refl

  same_bytes : verdict first second ≡ Equal → first ≡ second
  same_bytes e =
      let records : drop header_length first ≡ drop header_length second =
      whole_records_equal (drop header_length first) (drop header_length second) a.whole b.whole (sym by_records ∙ e) in
      sym (take-append-drop header_length first) ∙
      rw (accepted_header log first a.bytes a.accepted, ← accepted_header log second b.bytes b.accepted, records)
      (take-append-drop header_length second)

  same_verdict : first ≡ second → verdict first second ≡ Equal
  same_verdict e = by_records ∙ rw (← e) (self_equal (drop header_length first) a.whole)

  pub equal_claim : {v : Verdict} → Compared first second v → (v ≡ Equal → first ≡ second) × (first ≡ second → v ≡ Equal)
  equal_claim c = (
    λ e. same_bytes (laws.saturated_equal (verdict first second) (sym (verdict_claim first second c) ∙ e)),
    λ e. verdict_claim first second c ∙ ap saturated (same_verdict e),
  )
