-- Each turn goes on behind one field more, and a field that differs is the first. Assumes nothing.
use Rattle.std.proofs.Common.{rules}
use Rattle.compare.proofs.comparison.Fields.{named_here, searching_on}
use Rattle.compare.proofs.comparison.differing_field.Goals as goal

pub returns-then-ne : goal.returns-then-ne
returns-then-ne c = search (named_here, rules)

pub loop-part-preserved : goal.loop-part-preserved
loop-part-preserved c =
    searching_on _ _ _ _ _ c.loop-part.invariant _ c.layout-table.ensures (search rules) _ (search rules)
