-- The loop: the records before its place are equal. Assumes nothing.
use Rattle.compare.specs.Private.{EqualBelow}
use Rattle.compare.proofs.comparison.differing_record.Given as goal

abbrev pub invariant-loop-i : goal.invariant-loop-i
invariant-loop-i l = EqualBelow l.i l.first l.second
