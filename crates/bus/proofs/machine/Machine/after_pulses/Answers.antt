-- The lines of the timers that pulsed are set, or none. Assumes nothing.
use Rattle.bus.proofs.machine.Setting.{none_pulsed, some_pulsed}
use Rattle.std.proofs.Common.{rules}
use Rattle.bus.specs.Board.{gr712rc}
use Rattle.bus.proofs.machine.Machine.after_pulses.Goals as goal

pub returns-then-lines-eq0 : goal.returns-then-lines-eq0
unfolding gr712rc
returns-then-lines-eq0 c = search (none_pulsed, rules)

pub returns : goal.returns
unfolding gr712rc
returns c = search (some_pulsed, rules)
