-- Words by their bits: what each operation on words does to a bit, and that two words with the same bits are equal. So an equation
-- of words is one of Bools. Assumes nothing.
use Rattle.std.specs.Prelude.{◌≡◌, ℕ, zero, suc, ◌+◌, ◌-◌, ◌*◌, ◌/◌, ◌%◌, ◌^◌, ◌<◌, ◌≤◌, min, max, Bool, not, ◌&&◌, ◌||◌, ◌==◌, refl}
use Rattle.std.proofs.Common.{sym, ap, ◌∙◌, arith, pow-suc, div-one, mul-div_cancel, one-add, shr-shr, pow-add, pow_pos, eq-eqb, ne_eqb, eqb-true}
use Rattle.std.proofs.Math.Bool as bool
use Rattle.std.proofs.Math.Bool.{and-or_distrib_right}
use Rattle.std.proofs.Math.Nat.{div_self, div-eq_of_lt, mul-mod_left}
use Rattle.std.proofs.Math.Decide.{dec_lt, ℕ_discrete}
use Rattle.std.proofs.Math.Pow.{pow-lt}
use Rattle.std.specs.Int.Bits.{bit_and, bit_or, and_step, or_step}
use Rattle.std.proofs.lemmas.Nat.{and_shr, or_shr}
use Rattle.devices.specs.Word.{bit, without}

-- the lowest bit
odd_or : (x y k w : ℕ) → w ≡ k * 2 + max (x % 2) (y % 2) → (w % 2 == 1) ≡ (x % 2 == 1 || y % 2 == 1)
odd_or x y k w e =
    elim (ℕ_discrete (x % 2) 1) [
      | yes a ↦ rw (eq-eqb (w % 2) 1 (omega arith), a) refl
      | no a ↦ let z : w % 2 ≡ y % 2 = omega arith in rw (z, ne_eqb (x % 2) 1 a) refl
    ]

odd_and : (x y k w : ℕ) → w ≡ k * 2 + min (x % 2) (y % 2) → (w % 2 == 1) ≡ (x % 2 == 1 && y % 2 == 1)
odd_and x y k w e =
    elim (ℕ_discrete (x % 2) 1) [
      | yes a ↦ let z : w % 2 ≡ y % 2 = omega arith in rw (z, a) refl
      | no a ↦ rw (ne_eqb (x % 2) 1 a, ne_eqb (w % 2) 1 (λ one. omega arith)) refl
    ]

odd_not : (x y : ℕ) → x % 2 + y % 2 ≡ 1 → (x % 2 == 1) ≡ not (y % 2 == 1)
odd_not x y e =
    elim (ℕ_discrete (y % 2) 1) [
      | yes a ↦ rw (a, ne_eqb (x % 2) 1 (λ one. omega arith)) refl
      | no a ↦ rw (ne_eqb (y % 2) 1 a, eq-eqb (x % 2) 1 (omega arith)) refl
    ]

odd_same : (x y : ℕ) → (x % 2 == 1) ≡ (y % 2 == 1) → x % 2 ≡ y % 2
odd_same x y e =
    elim (ℕ_discrete (x % 2) 1) [
      | yes a ↦ a ∙ sym (eqb-true (y % 2) 1 (sym e ∙ eq-eqb (x % 2) 1 a))
      | no a ↦
          elim (ℕ_discrete (y % 2) 1) [
            | yes b ↦ eqb-true (x % 2) 1 (e ∙ eq-eqb (y % 2) 1 b) ∙ sym b
            | no b ↦ omega arith
          ]
    ]

half_bit : (n w : ℕ) → bit (suc n) w ≡ bit n (w / 2)
half_bit n w = rw (← one-add n, ← shr-shr w 1 n) refl

-- each bit
pub bit-bit_or : (n a b : ℕ) → bit n (bit_or a b) ≡ (bit n a || bit n b)
bit-bit_or n a b = rw (or_shr a b n) (odd_or (a / 2 ^ n) (b / 2 ^ n) _ _ (or_step (a / 2 ^ n) (b / 2 ^ n)))

pub bit-bit_and : (n a b : ℕ) → bit n (bit_and a b) ≡ (bit n a && bit n b)
bit-bit_and n a b = rw (and_shr a b n) (odd_and (a / 2 ^ n) (b / 2 ^ n) _ _ (and_step (a / 2 ^ n) (b / 2 ^ n)))

bit_complement : (k n v : ℕ) → v < 2 ^ k → n < k → bit n (2 ^ k - 1 - v) ≡ not (bit n v)
bit_complement zero n v l h = absurd (omega arith)
bit_complement (suc k) zero v l h =
    let twice : 2 ^ suc k ≡ 2 ^ k * 2 = pow-suc 2 k in
    rw (div-one, div-one) (odd_not (2 ^ suc k - 1 - v) v (omega arith))
bit_complement (suc k) (suc n) v l h =
    let twice : 2 ^ suc k ≡ 2 ^ k * 2 = pow-suc 2 k in
    let half : (2 ^ suc k - 1 - v) / 2 ≡ 2 ^ k - 1 - v / 2 = omega arith in
    half_bit n (2 ^ suc k - 1 - v) ∙ ap (bit n) half ∙ bit_complement k n (v / 2) (omega arith) (omega arith) ∙
    ap not (sym (half_bit n v))

pub bit_without : (n ones word : ℕ) → ones < 2 ^ 32 → n < 32 → bit n (without ones word) ≡ (bit n word && not (bit n ones))
bit_without n ones word l h =
    bit-bit_and n word (0xFFFFFFFF - ones) ∙ ap (λ (b : Bool). bit n word && b) (bit_complement 32 n ones l h)

-- the word of one line
pub bit_line : (k n : ℕ) → bit k (2 ^ n) ≡ (k == n)
bit_line k n =
    elim (ℕ_discrete k n) [
      | yes e ↦ rw (e, div_self (pow_pos n), eq-eqb n n refl) refl
      | no e ↦
          elim (dec_lt k n) [
            | yes l ↦
                let j = n - suc k in
                let apart : n ≡ suc j + k = omega arith in
                let even : 2 ^ n / 2 ^ k % 2 ≡ 0 =
                rw (apart, pow-add 2 (suc j) k, mul-div_cancel (2 ^ suc j) (pow_pos k), pow-suc 2 j) (mul-mod_left (2 ^ j) 2) in
                rw (even, ne_eqb k n e) refl
            | no l ↦ rw (ne_eqb k n e, div-eq_of_lt (pow-lt {i = n} {j = k} (omega arith))) refl
          ]
    ]

-- Two words with the same bits are equal.
same_to : (k a b : ℕ) → a ≤ k → b ≤ k → ((n : ℕ) → bit n a ≡ bit n b) → a ≡ b
same_to zero a b l m e = omega arith
same_to (suc k) a b l m e =
    let low : a % 2 ≡ b % 2 = odd_same a b (rw (div-one, div-one) at (e 0)) in
    let halves : a / 2 ≡ b / 2 =
    same_to k (a / 2) (b / 2) (omega arith) (omega arith) (λ n. sym (half_bit n a) ∙ e (suc n) ∙ half_bit n b) in
    omega arith

same_bits : (a b : ℕ) → ((n : ℕ) → bit n a ≡ bit n b) → a ≡ b
same_bits a b e = same_to (a + b) a b (omega arith) (omega arith) e

pub or_assoc : (a b c : ℕ) → bit_or (bit_or a b) c ≡ bit_or a (bit_or b c)
or_assoc a b c = same_bits _ _ (λ n. simp (bit-bit_or, bool.or_assoc))

pub and_assoc : (a b c : ℕ) → bit_and (bit_and a b) c ≡ bit_and a (bit_and b c)
and_assoc a b c = same_bits _ _ (λ n. simp (bit-bit_and, bool.and_assoc))

pub or_and : (a b c : ℕ) → bit_and (bit_or a b) c ≡ bit_or (bit_and a c) (bit_and b c)
or_and a b c = same_bits _ _ (λ n. simp (bit-bit_and, bit-bit_or) (and-or_distrib_right (bit n a) (bit n b) (bit n c)))
