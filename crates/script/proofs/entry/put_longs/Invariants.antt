-- The loop: the numbers before its place are written. Assumes nothing.
use Rattle.std.proofs.Common.{◌≡◌, take}
use Rattle.script.specs.Private as private
use Rattle.script.specs.Buffer.{wrote}
use Rattle.script.proofs.entry.put_longs.Given as goal

abbrev pub invariant-loop-i : goal.invariant-loop-i
invariant-loop-i l = l.log ≡ wrote l.fn.log l.at (private.longs (take l.i l.n-items))
