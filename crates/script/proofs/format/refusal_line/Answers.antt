-- Each reason's number has two digits. Assumes nothing.
use Rattle.std.specs.Prelude.{◌+◌, ◌/◌, ◌%◌, ◌≡◌, refl, ◌∷◌, ◌++◌}
use Rattle.script.specs.Text.{text, newline, decimal_within}
use Rattle.script.specs.Format.{number_of, refusal_line}
use Rattle.script.specs.declared.format.Reason.{Reason}
use Rattle.script.specs.declared.format.Reason.TheVariants.{BadFile, BadVersion}
use Rattle.script.proofs.format.refusal_line.Goals as goal

line_of :
    (reason : Reason) →
    text "refused " ++ ((0x30 + number_of reason / 10) ∷ (0x30 + number_of reason % 10) ∷ newline) ≡
    refusal_line (number_of reason)
unfolding decimal_within
line_of BadFile = refl
line_of BadVersion = refl

pub returns : goal.returns
returns c = rw c.number-number.ensures (line_of c.args.reason)
