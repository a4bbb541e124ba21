-- The words in which the code finds lines, and their highest bits, are the lines of the definitions. Assumes nothing.
use Rattle.std.specs.Prelude.{◌≡◌, ℕ, zero, suc, ◌+◌, ◌-◌, ◌*◌, ◌/◌, ◌^◌, ◌<◌, ◌≤◌, Bool, true, false, cond, not, ◌&&◌, ◌||◌, leb, ◌==◌, nat_le, refl}
use Rattle.std.proofs.Common.{sym, ap, ◌∙◌, true≢false, pow-suc, arith, pow_mono, pow_pos, eqb-true, ne_eqb, lt-ltb, le-leb}
use Rattle.std.proofs.Math.Bool.{and-eq-true_iff, and_comm, and_assoc, and-true, and-false, or-true, or-false}
use Rattle.std.proofs.Math.Decide.{ℕ_discrete}
use Rattle.std.proofs.Math.Nat.{div-eq_of_lt, div-eq-sub-div}
use Rattle.std.specs.Int.Bits.{bit_and, bit_or}
use Rattle.std.specs.Int.Count.{count_leading_zeros}
use Rattle.std.proofs.lemmas.Nat.{leading_top}
use Rattle.std.proofs.lemmas.Bool.{lt-leb}
use Rattle.devices.specs.Word.{bit}
use Rattle.devices.proofs.Laws.Word.{bit-bit_or, bit-bit_and, bit_line}
use Rattle.devices.specs.Irqmp.{lines_1_to_15, waits, highest, extended_line, reaches, or_else, line_taken}
use Rattle.devices.proofs.Laws.Irqmp.{highest_same, highest_cut, highest_is}
use Rattle.devices.specs.declared.irqmp.Irqmp.{Irqmp}
use Rattle.devices.specs.Irqmp.Words.{highest_in, extended_lines, waiting, reaching}

-- The highest bit of a word, by the zeros above it.
bit_top : (j word : ℕ) → 2 ^ j ≤ word → word < 2 ^ suc j → bit j word ≡ true
bit_top j word l h =
    let twice : 2 ^ suc j ≡ 2 ^ j * 2 = pow-suc 2 j in
    let less : (word - 2 ^ j) / 2 ^ j ≡ 0 = div-eq_of_lt (omega arith) in
    let one : word / 2 ^ j ≡ 1 = rw (div-eq-sub-div (pow_pos j) l, less) refl in
    rw one refl

bit_beyond : (n word : ℕ) → word < 2 ^ n → bit n word ≡ false
bit_beyond n word l = rw (div-eq_of_lt l) refl

pub highest_top : (word : ℕ) → 0 < word → word < 2 ^ 32 → 31 - count_leading_zeros 32 word ≡ highest_in word
highest_top word some fits =
    let top = leading_top 32 word some fits in
    let j = top.0 in
    let e : count_leading_zeros 32 word + suc j ≡ 32 = top.1 in
    let is : highest_in word ≡ j =
    highest_is 31 (λ n. bit n word) j (omega arith) (bit_top j word top.2 top.3)
    (λ i l m. bit_beyond i word (omega (arith, top.3, pow_mono {i = suc j} {j = i} l))) in
    omega (arith, is)

-- Two tests that agree on the lines below k, by one computed test.
abbrev agree : Bool → Bool → Bool
agree a b = cond a b (not b)

abbrev agree_below : ℕ → (ℕ → Bool) → (ℕ → Bool) → Bool
agree_below zero s t = true
agree_below (suc k) s t = agree (s k) (t k) && agree_below k s t

agree_same : (a b : Bool) → agree a b ≡ true → a ≡ b
agree_same true b e = sym e
agree_same false true e = e
agree_same false false e = refl

agree_at : (k : ℕ) (s t : ℕ → Bool) (n : ℕ) → agree_below k s t ≡ true → n < k → s n ≡ t n
agree_at zero s t n e l = absurd (omega arith)
agree_at (suc k) s t n e l =
    let both = (and-eq-true_iff (agree (s k) (t k)) (agree_below k s t)).0 e in
    elim (ℕ_discrete n k) [
      | yes z ↦ rw z (agree_same (s k) (t k) both.0)
      | no z ↦ agree_at k s t n both.1 (omega arith)
    ]

-- the words of lines 1 to 15 and of the extended lines
low_bit : (n : ℕ) → n < 32 → bit n lines_1_to_15 ≡ (nat_le 1 n && nat_le n 15)
low_bit n l = agree_at 32 (λ i. bit i lines_1_to_15) (λ i. nat_le 1 i && nat_le i 15) n refl l

extended_bit : (n : ℕ) → n < 32 → bit n extended_lines ≡ nat_le 16 n
extended_bit n l = agree_at 32 (λ i. bit i extended_lines) (λ i. leb 16 i) n refl l

-- The code's words have the lines of the definitions.
module _ (c : Irqmp) where
  waiting_bit : (n : ℕ) → bit n (waiting c) ≡ waits c n
  waiting_bit n =
      bit-bit_and n (bit_or c.pending c.force) c.mask ∙
      ap (λ (b : Bool). b && bit n c.mask) (bit-bit_or n c.pending c.force)

  pub extended_by : (w h : ℕ) → w ≡ waiting c → h ≡ highest_in (bit_and w extended_lines) → h ≡ extended_line c
  extended_by w h e f =
      f ∙
      highest_same 31 (λ n. bit n (bit_and w extended_lines)) (λ n. nat_le 16 n && waits c n)
      (λ n l m.
      bit-bit_and n w extended_lines ∙ rw (e, waiting_bit n, extended_bit n (omega arith)) (and_comm (waits c n) (nat_le 16 n)))

  reaching_bit : (n : ℕ) → 0 < n → n ≤ 31 → bit n (reaching c) ≡ (nat_le n 15 && reaches c n)
  reaching_bit n l m =
      let own : bit n (bit_and (waiting c) lines_1_to_15) ≡ (waits c n && nat_le n 15) =
      bit-bit_and n (waiting c) lines_1_to_15 ∙ rw (waiting_bit n, low_bit n (omega arith), le-leb 1 n l) refl in
      elim (ℕ_discrete (extended_line c) 0) [
        | yes none ↦ rw none (own ∙ own_only (waits c n) (nat_le n 15) (n == 12))
        | no some ↦
            let both : bit n (bit_or (bit_and (waiting c) lines_1_to_15) (2 ^ 12)) ≡ ((waits c n && nat_le n 15) || n == 12) =
            bit-bit_or n (bit_and (waiting c) lines_1_to_15) (2 ^ 12) ∙ rw (own, bit_line n 12) refl in
            rw (ne_eqb (extended_line c) 0 some, lt-ltb 0 (extended_line c) (omega arith))
            (both ∙
            with_12 (waits c n) (nat_le n 15) (n == 12)
            (λ e. let is : n ≡ 12 = eqb-true n 12 e in le-leb n 15 (omega arith)))
      ]
    where
      own_only : (a b e : Bool) → (a && b) ≡ (b && (a || (e && false)))
      own_only true b e = sym (and-true b)
      own_only false b true = sym (and-false b)
      own_only false b false = sym (and-false b)

      with_12 : (a b e : Bool) → (e ≡ true → b ≡ true) → ((a && b) || e) ≡ (b && (a || (e && true)))
      with_12 a true true f = rw (and-true a, or-true a) refl
      with_12 a true false f = rw (and-true a, or-false a) refl
      with_12 a false true f = absurd (true≢false (sym (f refl)))
      with_12 a false false f = rw (and-false a) refl

  -- the highest line of a word whose lines are those of 1 to 15 that pass a test
  highest_low :
      (word : ℕ) (t : ℕ → Bool) → ((n : ℕ) → 0 < n → n ≤ 31 → bit n word ≡ (nat_le n 15 && t n)) → highest_in word ≡ highest 15 t
  highest_low word t e =
      highest_cut 31 15 (λ n. bit n word) (omega arith) (λ n l m. rw (e n (omega arith) m, lt-leb n 15 l) refl) ∙
      highest_same 15 (λ n. bit n word) t (λ n l m. rw (e n l (omega arith), le-leb n 15 m) refl)

  pub taken_by :
      (r h k line : ℕ) → r ≡ reaching c → h ≡ highest_in (bit_and r c.level) → k ≡ highest_in r → line ≡ or_else h k →
      line ≡ line_taken c
  unfolding line_taken
  taken_by r h k line e f g i =
      let first : h ≡ highest 15 (λ n. reaches c n && bit n c.level) =
      f ∙
      highest_low (bit_and r c.level) (λ n. reaches c n && bit n c.level)
      (λ n l m.
      bit-bit_and n r c.level ∙ rw (e, reaching_bit n l m) (and_assoc (nat_le n 15) (reaches c n) (bit n c.level))) in
      let second : k ≡ highest 15 (reaches c) = g ∙ highest_low r (reaches c) (λ n l m. rw e (reaching_bit n l m)) in
      rw (← first, ← second) i
