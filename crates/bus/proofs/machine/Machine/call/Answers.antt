-- What the closure keeps is the reply. Assumes nothing.
use Rattle.std.proofs.Common.{rules}
use Rattle.bus.proofs.machine.Carrying.{answered}
use Rattle.bus.proofs.machine.Machine.call.Goals as goal

pub returns : goal.returns
returns c = answered c.levels.ensures (search rules) c.carry_out.ensures.1
