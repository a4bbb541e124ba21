-- By its law. Assumes nothing.
use Rattle.std.proofs.Common.{◌≡◌, refl, length, rules}
use Rattle.devices.specs.Apbuart.View.{port_of}
use Rattle.devices.proofs.Laws.Lists.{length_of}
use Rattle.bus.proofs.Laws.Route.{carries_out, port_outcome}
use Rattle.bus.proofs.machine.Machine.call_port.Goals as goal

pub returns : goal.returns
returns c =
    let whole : length c.args.self.now.ports ≡ 6 = search (length_of, rules) in
    let says = rw (c.number.ensures, c.done.ensures) at (c.of_port.ensures (port_of c.call-answer.result.device)) in
    carries_out _ _ _ _ _ says
    (port_outcome _ _ _ _ _ _ _ refl c.requires whole c.call-answer.ensures c.after_port-self.ensures)
