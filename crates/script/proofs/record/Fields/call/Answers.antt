-- A byte that names no kind is that of no line. Assumes nothing.
use Rattle.std.proofs.Common.{refl, ne_eqb}
use Rattle.script.specs.Script as scripts
use Rattle.script.specs.declared.record.Kind.TheVariants as kind
use Rattle.script.proofs.record.Fields.call.Goals as goal

pub returns-in-Err : goal.returns-in-Err
returns-in-Err c =
    let unknown = c.in-Err.ensures in
    rw (
      ne_eqb c.args.self.kind scripts.READ (unknown kind.Read),
      ne_eqb c.args.self.kind scripts.WRITE (unknown kind.Write),
      ne_eqb c.args.self.kind scripts.OFFER (unknown kind.Offer),
      ne_eqb c.args.self.kind scripts.ADVANCE (unknown kind.Advance),
      ne_eqb c.args.self.kind scripts.SKIP (unknown kind.Skip),
      ne_eqb c.args.self.kind scripts.RESET (unknown kind.Reset),
      ne_eqb c.args.self.kind scripts.ACKNOWLEDGE (unknown kind.Acknowledge),
    ) refl
