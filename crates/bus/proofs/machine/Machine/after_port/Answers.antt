-- The port's line is set where its level rose. Assumes nothing.
use Rattle.bus.proofs.machine.Setting.{rose}
use Rattle.std.proofs.Common.{rules}
use Rattle.bus.specs.Board.{gr712rc}
use Rattle.bus.proofs.machine.Machine.after_port.Goals as goal

pub returns-then-n-lt-PORTS : goal.returns-then-n-lt-PORTS
unfolding gr712rc
returns-then-n-lt-PORTS c = search (rose, rules)
