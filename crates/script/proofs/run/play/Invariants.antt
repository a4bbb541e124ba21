-- The loop over the records: the machine and the log so far are those of the records before its place. Assumes nothing.
use Rattle.std.proofs.Common.{◌≡◌, length}
use Rattle.bus.specs.View.{machine_of}
use Rattle.script.specs.Run.{ran}
use Rattle.script.specs.Private.{Played}
use Rattle.script.proofs.run.play.Given as goal

abbrev pub invariant-loop-i : goal.invariant-loop-i
invariant-loop-i l =
    (length l.log ≡ length l.fn.log) × Played (ran l.i l.script l.fn.log (machine_of l.fn.begun.machine)) l.machine.machine l.log
