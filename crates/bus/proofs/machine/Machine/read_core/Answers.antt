-- By their laws. Assumes nothing.
use Rattle.bus.proofs.Laws.Route.{carries_out, unit_read_outcome, controller_read_outcome}
use Rattle.bus.proofs.machine.Machine.read_core.Goals as goal

pub returns-in-TimerUnit : goal.returns-in-TimerUnit
returns-in-TimerUnit c = search (carries_out, unit_read_outcome)

pub returns-in-Controller : goal.returns-in-Controller
returns-in-Controller c = search (carries_out, controller_read_outcome)
