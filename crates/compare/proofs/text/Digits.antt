-- How many digits a number has. Assumes nothing.
use Rattle.std.specs.Prelude.{ℕ, ◌+◌, ◌/◌, ◌≤◌, ◌<◌, ◌≡◌, refl, List, [], ◌∷◌, ◌++◌, length}
use Rattle.std.proofs.Common.{arith, Fits, w8, w64, append_assoc, length-append}
use Rattle.script.specs.Text.{digit, decimal}
use Rattle.script.proofs.Laws.Text.{decimal_one, decimal_more, decimal_length}

pub one_digit : (n : ℕ) → n < 10 → length (decimal n) ≡ 1
one_digit n d = rw (decimal_one n d) refl

pub more_digits : (n : ℕ) → 10 ≤ n → length (decimal n) ≡ length (decimal (n / 10)) + 1
more_digits n d = rw (decimal_more n d, length-append) refl

-- The digits of the tenth are put, and then the last one.
pub put_last : (n : ℕ) (xs : List ℕ) → 10 ≤ n → (xs ++ decimal (n / 10)) ++ digit n ∷ [] ≡ xs ++ decimal n
put_last n xs d = rw (decimal_more n d, append_assoc) refl

pub ruleset digit_by_digit = (one_digit, more_digits, decimal_one, put_last)

-- at most, with 8 bits and with 64
pub byte_digits : (n : ℕ) → Fits w8 n → length (decimal n) ≤ 3
byte_digits n f = decimal_length 2 n (omega (arith, f.fits))

pub long_digits : (n : ℕ) → Fits w64 n → length (decimal n) ≤ 20
long_digits n f = decimal_length 19 n (omega (arith, f.fits))
