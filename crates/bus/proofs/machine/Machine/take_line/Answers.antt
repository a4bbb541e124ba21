-- By its law. Assumes nothing.
use Rattle.bus.proofs.Laws.Route.{carries_out, acknowledge_outcome}
use Rattle.bus.proofs.machine.Machine.take_line.Goals as goal

pub returns : goal.returns
returns c = rw c.stored.ensures.place (search (carries_out, acknowledge_outcome))
