-- The bytes are copied, and their number is the library's. Assumes nothing.
use Rattle.std.specs.Prelude.{ℕ, ◌+◌, ◌-◌, ◌≡◌, List}
use Rattle.std.specs.Int.{w32, from_be_bytes}
use Rattle.std.proofs.Common.{◌∙◌, arith}
use Rattle.script.specs.Number.{number}
use Rattle.script.proofs.Laws.Number.{number_cut}
use Rattle.script.proofs.number.word.Goals as goal

number_of : (bytes : List ℕ) → from_be_bytes w32 bytes ≡ number 0 4 bytes
unfolding number
number_of bytes = omega arith

pub returns : goal.returns
returns c =
    let width : c.args.at + 4 - c.args.at ≡ 4 = omega arith in
    let part = (rw c.unwrap.ensures at c.try_into.ensures.1).same in
    c.from_be_bytes.ensures ∙ number_of c.unwrap.result ∙ rw (part, width) (number_cut c.args.at 4 4 c.args.bytes.now (omega arith))
