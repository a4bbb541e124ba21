-- By what the words are of the definition's lines. Assumes nothing.
use Rattle.std.proofs.Common.{◌≡◌, ℕ, refl, arith, ne_eqb}
use Rattle.std.specs.Prelude.{Option, Some, None, option_map}
use Rattle.std.specs.Option.{option_or}
use Rattle.devices.specs.Irqmp.{or_else}
use Rattle.devices.specs.Irqmp.Words.{number_or_0}
use Rattle.devices.specs.declared.line.Line.{Line}
use Rattle.devices.proofs.Laws.Irqmp.Words.{taken_by}
use Rattle.devices.proofs.irqmp.Irqmp.line_taken.Goals as goal

abbrev number : Option Line → ℕ
number line = number_or_0 (option_map (λ (l : Line). l.number) line)

either : (first second : Option Line) → number (option_or first second) ≡ or_else (number first) (number second)
either None second = refl
either (Some line) second = rw (ne_eqb line.number 0 (omega (arith, line.is_line))) refl

pub returns : goal.returns
returns c =
    taken_by c.args.self _ _ _ _ c.reaching-reaching.ensures c.highest.ensures c.highest-2.ensures
    (rw c.or.ensures (either c.highest.result c.highest-2.result))
