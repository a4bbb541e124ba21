-- A well-formed port's queue is within its depth. Assumes nothing.
use Rattle.std.proofs.Common.{rules}
use Rattle.devices.proofs.Laws.Apbuart.{well_queue}
use Rattle.devices.specs.Apbuart.View.{port_of}
use Rattle.devices.proofs.apbuart.Apbuart.read.Goals as goal

pub read_register-requires : goal.read_register-requires
read_register-requires c = well_queue (port_of c.args.self) (search rules)
