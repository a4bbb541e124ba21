-- By the test for 9. Assumes nothing.
use Rattle.std.proofs.Common.{refl}
use Rattle.bus.specs.Board.{gr712rc}
use Rattle.bus.proofs.Laws.Route.{leads_there}
use Rattle.bus.proofs.machine.Carrying.{well_replied, ill_replied}
use Rattle.bus.proofs.machine.Machine.carry_out.Goals as goal

pub follow-requires-clause-port_is_there : goal.follow-requires-clause-port_is_there
unfolding gr712rc
follow-requires-clause-port_is_there g c = leads_there _ _ c.of.ensures

pub returns-then-well_formed : goal.returns-then-well_formed
unfolding gr712rc
returns-then-well_formed g c = (
  c.follow.ensures.0,
  well_replied c.well_formed-2.ensures c.if-well_formed.true c.of.ensures c.follow.ensures.1,
  c.follow.ensures.2,
)

pub returns-else-well_formed : goal.returns-else-well_formed
returns-else-well_formed g c = (
  c.refused.result,
  ill_replied c.well_formed-2.ensures c.if-well_formed.false (rw c.number.ensures at c.refused.ensures) refl,
  c.tell.ensures,
)
