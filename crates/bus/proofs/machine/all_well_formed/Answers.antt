-- The ports, as the chain goes through them. Assumes nothing.
use Rattle.std.proofs.Common.{◌≡◌, sym, ◌∙◌, rules}
use Rattle.std.specs.List.{list_all}
use Rattle.std.proofs.lemmas.Iterator.Search.{all_from_yields_List}
use Rattle.std.proofs.lemmas.Iterator.{YieldsList-from_slice}
use Rattle.devices.specs.Apbuart as uart
use Rattle.devices.specs.Apbuart.View.{port_of}
use Rattle.bus.proofs.machine.Ports.{all_listed}
use Rattle.bus.proofs.machine.all_well_formed.Goals as goal

pub returns : goal.returns
returns c =
    let all : c.all.result ≡ list_all (λ p. uart.well_formed (port_of p)) c.args.ports.now =
    all_from_yields_List _ _ _ c.all.result c.all.ensures.ran (YieldsList-from_slice c.args.ports.now cc) (λ x b q k. search rules) in
    all ∙ sym (all_listed c.args.ports.now)
