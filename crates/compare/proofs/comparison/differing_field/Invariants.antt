-- The loop: the fields before its place are equal. Assumes nothing.
use Rattle.compare.proofs.comparison.Fields.{Searching}
use Rattle.compare.proofs.comparison.differing_field.Given as goal

abbrev pub invariant-loop-part : goal.invariant-loop-part
invariant-loop-part l = Searching l.first l.second l.part-index l.a l.b
