-- By its law. Assumes nothing.
use Rattle.bus.proofs.Laws.Route.{carries_out, pass_outcome}
use Rattle.bus.proofs.machine.Machine.pass.Goals as goal

pub returns : goal.returns
returns c = search (carries_out, pass_outcome)
