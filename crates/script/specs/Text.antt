-- What is written for people: texts, and numbers in decimal.
use Rattle.std.specs.Prelude.{ℕ, zero, suc, ◌+◌, ◌/◌, ◌%◌, cond, List, [], ◌∷◌, ◌++◌, nat_lt}
use Prim.Native.Char.{code}
use Prim.Native.String as string

-- the ASCII codes of a text
abbrev pub text : string.String → List ℕ
text string.[] = []
text (string.◌∷◌ c cs) = code c ∷ text cs

abbrev pub newline : List ℕ
newline = text "\n"

-- the ASCII code of a number's last digit
abbrev pub digit : ℕ → ℕ
digit n = 0x30 + n % 10

-- the digits of a number, at most so many of its last ones
unfoldable pub decimal_within : (places : ℕ) → ℕ → List ℕ
decimal_within zero n = []
decimal_within (suc places) n = cond (nat_lt n 10) (digit n ∷ []) (decimal_within places (n / 10) ++ (digit n ∷ []))

-- a number in decimal: n + 1 places are always enough
abbrev pub decimal : ℕ → List ℕ
decimal n = decimal_within (suc n) n
