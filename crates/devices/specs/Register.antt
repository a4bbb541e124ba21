-- Where a device has registers: paper 02, No. 5.
use Rattle.std.specs.Prelude.{ℕ, Bool, false, ◌||◌, List, [], ◌∷◌, ◌==◌}

-- "an offset without a register": one that is none of a device's list
abbrev pub one_of : List ℕ → ℕ → Bool
one_of [] offset = false
one_of (register ∷ registers) offset = offset == register || one_of registers offset
