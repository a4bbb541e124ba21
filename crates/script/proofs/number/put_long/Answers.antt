-- The bytes of a number by divisions are those by one division after the other. Assumes nothing.
use Rattle.std.specs.Prelude.{ℕ, ◌+◌, ◌-◌, ◌≡◌, refl}
use Rattle.std.specs.Int.{w64, to_be_bytes}
use Rattle.std.proofs.Common.{◌∙◌, arith, drop-drop}
use Rattle.std.proofs.Math.Nat.{div-div-eq-div-mul}
use Rattle.script.specs.Buffer.{wrote}
use Rattle.script.specs.Number.{encoded}
use Rattle.script.proofs.number.put_long.Goals as goal

bytes_of : (n : ℕ) → to_be_bytes w64 n ≡ encoded 8 n
unfolding encoded
bytes_of n = simp div-div-eq-div-mul

pub returns : goal.returns
unfolding wrote encoded
returns c =
    let eight : c.args.at + 8 - c.args.at ≡ 8 = omega arith in
    let put = c.copy_from_slice.ensures.after ∙ c.to_be_bytes.ensures ∙ bytes_of c.args.n in
    rw (eight, put, drop-drop 8 c.args.at c.args.bytes.now) refl
