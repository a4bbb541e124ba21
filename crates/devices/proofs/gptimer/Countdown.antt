-- What the code does with a countdown is the direct form. Assumes nothing.
use Rattle.std.proofs.Common.{◌≡◌, ℕ, suc, ◌+◌, ◌-◌, ◌*◌, ◌/◌, ◌%◌, ◌^◌, ◌<◌, ◌≤◌, refl, mod-lt, div-lt_iff_lt-mul, le-div_iff_mul-le, div-le_self, add-one, one-add, arith, mul_comm}
use Rattle.std.specs.Prelude.{min}
use Rattle.devices.specs.Gptimer.Direct.{periods, standing, ends_at}

-- a wrapping subtraction of what is no more
pub no_wrap : (w x c : ℕ) → (w + x) % 2 ^ 32 ≡ c → w < 2 ^ 32 → x ≤ c → w ≡ c - x
no_wrap w x c e small l = omega arith

-- it has ended and started again
module _ (v r k : ℕ) where
  pub ends_fit : k < 2 ^ 64 → 1 + (k - (v + 1)) / (r + 1) < 2 ^ 64
  ends_fit small = omega (arith, div-le_self (k - (v + 1)) (r + 1))

  rest_within : (k - (v + 1)) % (r + 1) ≤ r
  rest_within = let l : (k - (v + 1)) % (r + 1) < r + 1 = mod-lt (k - (v + 1)) (omega arith) in omega arith

  pub rest_fits : r < 2 ^ 32 → (k - (v + 1)) % (r + 1) < 2 ^ 32
  rest_fits small = omega (arith, rest_within)

  pub ended_often : 1 + (k - (v + 1)) / (r + 1) ≡ suc (periods v r k)
  ended_often = rw (add-one v, add-one r, one-add) refl

  pub starts_again : (w : ℕ) → (w + (k - (v + 1)) % (r + 1)) % 2 ^ 32 ≡ r → w < 2 ^ 32 → w ≡ standing v r k
  starts_again w e small = rw (← add-one v, ← add-one r) (no_wrap w _ r e small rest_within)

-- its first end, and its j-th, where it is a 64-bit number and where it is not
module _ (v r j : ℕ) (small : v < 2 ^ 32) where
  pub end_first : j ≡ 1 → v + 1 ≡ ends_at v r j
  unfolding ends_at
  end_first one = rw one (omega arith)

  pub end_saturated :
      (p e : ℕ) → p ≡ min ((r + 1) * (j - 1)) (2 ^ 64 - 1) → e ≡ min (v + 1 + p) (2 ^ 64 - 1) → e ≡ ends_at v r j
  unfolding ends_at
  end_saturated p e q h =
      let same : (r + 1) * (j - 1) ≡ (j - 1) * (r + 1) = mul_comm (r + 1) (j - 1) in
      let product : p ≡ min ((j - 1) * (r + 1)) (2 ^ 64 - 1) = rw (← same) q in
      rw (← add-one v, ← add-one r) (omega (arith, product, h))

pub ruleset restarts = (ends_fit, rest_fits, ended_often, starts_again)

pub ruleset ends = (end_first, end_saturated)
