-- By their laws. Assumes nothing.
use Rattle.bus.proofs.Laws.Route.{carries_out, unit_write_outcome, controller_write_outcome}
use Rattle.bus.proofs.machine.Machine.write_core.Goals as goal

pub returns-in-TimerUnit : goal.returns-in-TimerUnit
returns-in-TimerUnit c = rw c.stored.ensures.place (search (carries_out, unit_write_outcome))

pub returns-in-Controller : goal.returns-in-Controller
returns-in-Controller c = rw c.stored-in-Controller.ensures.place (search (carries_out, controller_write_outcome))
