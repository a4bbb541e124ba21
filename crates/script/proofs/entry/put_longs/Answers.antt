-- Nothing is written at first, and each turn writes one number more. Assumes nothing.
use Rattle.std.proofs.Common.{arith}
use Rattle.script.proofs.Laws.Buffer.{none_written}
use Rattle.script.proofs.entry.Longs.{next_long, all_longs}
use Rattle.script.proofs.entry.put_longs.Goals as goal

pub loop-i-init : goal.loop-i-init
loop-i-init c = search none_written

pub loop-i-preserved : goal.loop-i-preserved
loop-i-preserved c =
    next_long _ c.loop-i.log _ c.loop-i.i _ c.loop-i.invariant _ c.put_long.ensures (omega arith) (omega arith)

pub returns : goal.returns
returns c = all_longs _ _ _ c.loop-i.i _ c.loop-i.invariant (omega arith)
