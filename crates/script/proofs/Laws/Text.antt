-- What follows from the definition of decimal numbers. Assumes nothing.
use Rattle.std.specs.Prelude.{ℕ, zero, suc, ◌^◌, ◌/◌, ◌≤◌, ◌<◌, ◌≡◌, refl, [], ◌∷◌, ◌++◌, length}
use Rattle.std.proofs.Common.{arith, pow-suc, div-lt_iff_lt-mul, length-append, le-ltb, lt-ltb}
use Rattle.std.proofs.Math.Decide.{dec_lt}
use Rattle.script.specs.Text.{digit, decimal_within, decimal}

-- Any number of places that is above the number will do.
enough : (k l n : ℕ) → n < k → n < l → decimal_within k n ≡ decimal_within l n
unfolding decimal_within
enough zero l n h i = absurd (omega arith)
enough (suc k) zero n h i = absurd (omega arith)
enough (suc k) (suc l) n h i =
    elim (dec_lt n 10) [
      | yes d ↦ rw (lt-ltb n 10 d) refl
      | no d ↦ rw (le-ltb n 10 (omega arith), enough k l (n / 10) (omega arith) (omega arith)) refl
    ]

-- A number below 10 is its digit; any other has the digits of its tenth and one more.
pub decimal_one : (n : ℕ) → n < 10 → decimal n ≡ digit n ∷ []
unfolding decimal_within
decimal_one n d = rw (lt-ltb n 10 d) refl

pub decimal_more : (n : ℕ) → 10 ≤ n → decimal n ≡ decimal (n / 10) ++ (digit n ∷ [])
unfolding decimal_within
decimal_more n d = rw (le-ltb n 10 d, enough n (suc (n / 10)) (n / 10) (omega arith) (omega arith)) refl

-- How many digits a number has at most.
pub decimal_length : (k n : ℕ) → n < 10 ^ suc k → length (decimal n) ≤ suc k
decimal_length zero n h = rw (decimal_one n (omega arith)) (omega arith)
decimal_length (suc k) n h =
    elim (dec_lt n 10) [
      | yes d ↦ rw (decimal_one n d) (omega arith)
      | no d ↦
          let below : n / 10 < 10 ^ suc k = (div-lt_iff_lt-mul {k = 10} (omega arith)).1 (rw (← pow-suc) h) in
          rw (decimal_more n (omega arith), length-append) (omega (arith, decimal_length k (n / 10) below))
    ]
