-- "Numbers are big-endian": paper 01, "Script and log".
use Rattle.std.specs.Prelude.{ℕ, zero, suc, ◌+◌, ◌*◌, ◌/◌, ◌%◌, List, [], ◌∷◌, ◌++◌, get_or}

-- byte n of some bytes
abbrev pub byte : ℕ → List ℕ → ℕ
byte n bytes = get_or bytes n 0

-- the number in the `count` bytes from byte n on: the last counts least
unfoldable pub number : (n count : ℕ) → List ℕ → ℕ
number n zero bytes = 0
number n (suc count) bytes = number n count bytes * 256 + byte (n + count) bytes

-- a number in `count` bytes
unfoldable pub encoded : (count : ℕ) → ℕ → List ℕ
encoded zero v = []
encoded (suc count) v = encoded count (v / 256) ++ (v % 256 ∷ [])
