-- The bytes are those of the two numbers. Assumes nothing.
use Rattle.std.proofs.Math.Nat.{div-div-eq-div-mul}
use Rattle.script.specs.Number.{encoded}
use Rattle.script.proofs.format.Format.header.Goals as goal

pub returns : goal.returns
unfolding encoded
returns c = rw (c.to_be_bytes.ensures, c.to_be_bytes-2.ensures) (simp div-div-eq-div-mul)
