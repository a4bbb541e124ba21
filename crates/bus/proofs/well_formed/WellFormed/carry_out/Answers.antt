-- By the route that the call takes; no call makes an ill-formed machine. Assumes nothing.
use Rattle.std.proofs.Common.{refl, sym}
use Rattle.bus.specs.Board.{gr712rc}
use Rattle.bus.proofs.Laws.Route.{leads_there}
use Rattle.bus.proofs.machine.Carrying.{well_replied, stays_well}
use Rattle.bus.proofs.well_formed.WellFormed.carry_out.Goals as goal

pub follow-requires-clause-port_is_there : goal.follow-requires-clause-port_is_there
unfolding gr712rc
follow-requires-clause-port_is_there g c = leads_there _ _ c.of.ensures

pub invariant_of-self : goal.invariant_of-self
unfolding gr712rc
invariant_of-self g c =
    let well = c.args.self.now.is_well_formed in
    record { is_well_formed = stays_well _ _ _ _ well (well_replied (sym well) refl c.of.ensures c.follow.ensures.1) }

pub returns : goal.returns
unfolding gr712rc
returns g c = (
  c.follow.ensures.0,
  well_replied (sym c.args.self.now.is_well_formed) refl c.of.ensures c.follow.ensures.1,
  c.follow.ensures.2,
)
