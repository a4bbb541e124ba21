-- The smaller of two counts; a tail is one record more. Assumes nothing.
use Rattle.std.specs.Prelude.{ℕ, zero, suc, ◌%◌, ◌≡◌, ◌==◌, refl, cond, min, length}
use Rattle.std.proofs.Common.{arith, ne_eqb}
use Rattle.script.specs.Script.{record_length}
use Rattle.script.specs.Run.{with_tail, fitting, piece}
use Rattle.script.proofs.run.run_piece.Goals as goal

tail : (left : ℕ) → cond (left == 0) 0 1 ≡ min 1 left
tail zero = refl
tail (suc left) = rw (ne_eqb (suc left) 0 (λ e. absurd (omega (arith, e)))) (omega arith)

pub returns : goal.returns
unfolding piece
returns c =
    let count : c.min.result ≡ min (with_tail c.args.piece.now) (fitting c.args.log.now) =
    rw (tail (length c.args.piece.now % record_length)) (omega arith) in
    rw (← count) c.run_records.ensures
