-- Which line an acknowledge takes and what it changes, line by line, for readers. Assumes nothing.
use Rattle.std.specs.Prelude.{◌≡◌, ℕ, ◌+◌, ◌*◌, ◌^◌, ◌<◌, ◌≤◌, Bool, true, false, cond, not, ◌&&◌, ◌||◌, ◌⊎◌, ◌==◌, ◌≢◌, nat_le, nat_lt}
use Rattle.std.proofs.Math.Path.{refl}
use Rattle.std.proofs.Common.{sym, ◌∙◌, inl, inr, true≢false, arith}
use Rattle.std.proofs.Math.Bool.{and-eq-true_iff, and-true, or-true}
use Rattle.std.proofs.Math.Decide.{dec_lt, ℕ_discrete}
use Rattle.std.proofs.Math.Pow.{pow-lt}
use borrow.Author.Tests.{eq-eqb, ne_eqb, lt-ltb, le-leb, lt-leb, leb-true}
use Rattle.devices.proofs.Laws.Cases.{chosen, tested}
use Rattle.devices.specs.Word.{bit, without}
use Rattle.devices.proofs.Laws.Word.{bit_line, bit_without}
use Rattle.devices.specs.Irqmp.{well_formed, with_extended, waits, highest, extended_line, reaches, or_else, line_taken}
use Rattle.devices.specs.Answer.{accepted}
use Rattle.devices.specs.Irqmp.{take, take12, acknowledge}
use Rattle.devices.proofs.Laws.Irqmp.{highest_le, highest_passes, highest_above}
use Rattle.devices.specs.declared.irqmp.Irqmp.{Irqmp}

-- The line whose bit an acknowledge clears, where it takes one: for 12 the highest waiting extended line if there is one.
abbrev pub line_cleared : Irqmp → ℕ
line_cleared c = cond (line_taken c == 12) (or_else (extended_line c) 12) (line_taken c)

both : (a b : Bool) → (a && b) ≡ true → (a ≡ true) × (b ≡ true)
both a b e = (and-eq-true_iff a b).0 e

-- what passes a test is not above the highest that does
no_higher : (k : ℕ) (t : ℕ → Bool) (n : ℕ) → n ≤ k → t n ≡ true → n ≤ highest k t
no_higher k t n l e =
    elim (dec_lt (highest k t) n) [
      | yes above ↦ absurd (true≢false (sym e ∙ highest_above k t n above l))
      | no below ↦ omega arith
    ]

module _ (c : Irqmp) where
  abbrev extends : ℕ → Bool
  extends n = nat_le 16 n && waits c n

  abbrev first : ℕ → Bool
  first n = reaches c n && bit n c.level

  -- by whether a line of level 1 reaches the processor
  taken_first : (highest 15 first ≢ 0) → line_taken c ≡ highest 15 first
  unfolding line_taken
  taken_first some = rw (ne_eqb (highest 15 first) 0 some) refl

  taken_second : highest 15 first ≡ 0 → line_taken c ≡ highest 15 (reaches c)
  unfolding line_taken
  taken_second none = rw none refl

  first_passes :
      (highest 15 first ≢ 0) → (reaches c (highest 15 first) ≡ true) × (bit (highest 15 first) c.level ≡ true)
  first_passes some =
      both (reaches c (highest 15 first)) (bit (highest 15 first) c.level) (highest_passes 15 first (omega arith))

  -- the line taken is one that reaches the processor
  taken_reaches : 0 < line_taken c → (reaches c (line_taken c) ≡ true) × (line_taken c ≤ 15)
  taken_reaches l =
      elim (ℕ_discrete (highest 15 first) 0) [
        | yes none ↦
            let e = taken_second none in
            rw e (highest_passes 15 (reaches c) (rw e at l), highest_le 15 (reaches c))
        | no some ↦
            rw (taken_first some) (
              (first_passes some).0,
              highest_le 15 first,
            )
      ]

  extended_waits : (extended_line c ≢ 0) → (16 ≤ extended_line c) × (waits c (extended_line c) ≡ true)
  extended_waits some =
      let passes = both (nat_le 16 (extended_line c)) (waits c (extended_line c)) (highest_passes 31 extends (omega arith)) in (leb-true 16 (extended_line c) passes.0, passes.1)

  own_waits : (n : ℕ) → (n ≡ 12 → extended_line c ≡ 0) → reaches c n ≡ true → waits c n ≡ true
  own_waits n none e =
      elim (ℕ_discrete n 12) [
        | yes is ↦ own (waits c n) (n == 12) (rw (none is) at e)
        | no other ↦ alone (waits c n) (nat_lt 0 (extended_line c)) (rw (ne_eqb n 12 other) at e)
      ]
    where
      own : (a b : Bool) → (a || (b && false)) ≡ true → a ≡ true
      own true b f = refl
      own false true f = f
      own false false f = f

      alone : (a b : Bool) → (a || (false && b)) ≡ true → a ≡ true
      alone true b f = refl
      alone false b f = f

  -- The line that is cleared reaches the processor as the line taken, and it waits.
  pub taken_waits : 0 < line_taken c → waits c (line_cleared c) ≡ true
  taken_waits l =
      let reached = (taken_reaches l).0 in
      elim (ℕ_discrete (line_taken c) 12) [
        | yes twelve ↦
            elim (ℕ_discrete (extended_line c) 0) [
              | yes none ↦ rw (eq-eqb (line_taken c) 12 twelve, none) (own_waits 12 (λ is. none) (rw twelve at reached))
              | no some ↦ rw (eq-eqb (line_taken c) 12 twelve, ne_eqb (extended_line c) 0 some) (extended_waits some).1
            ]
        | no other ↦ rw (ne_eqb (line_taken c) 12 other) (own_waits (line_taken c) (λ is. absurd (other is)) reached)
      ]

-- The order of lines that wait, as a number that no two of lines 1 to 31 share: by their level, then by the number as which they reach
-- the processor, then the extended lines by their own number, and before line 12 itself.
abbrev pub reaches_as : ℕ → ℕ
reaches_as n = cond (nat_le 16 n) 12 n

abbrev weight : Irqmp → ℕ → ℕ
weight c n = cond (bit n c.level) 1024 0 + n * 32

abbrev own_number : ℕ → ℕ
own_number n = cond (nat_le 16 n) n 0

abbrev pub precedence : Irqmp → ℕ → ℕ
precedence c n = weight c (reaches_as n) + own_number n

module _ (c : Irqmp) where
  -- a line that reaches the processor is the one taken, or goes behind it
  behind : (p : ℕ) → 0 < p → p ≤ 15 → reaches c p ≡ true → (p ≡ line_taken c) ⊎ (weight c p + 32 ≤ weight c (line_taken c))
  behind p l h e =
      tested (bit p c.level)
      (λ high.
      let among : p ≤ highest 15 (first c) = no_higher 15 (first c) p h (rw (e, high) refl) in
      let some : highest 15 (first c) ≡ 0 → ⊥ = λ z. absurd (omega arith) in
      let level = (first_passes c some).1 in
      rw (taken_first c some, high, level) (by_number p (highest 15 (first c)) 1024 among))
      (λ low.
      let among : p ≤ highest 15 (reaches c) = no_higher 15 (reaches c) p h e in
      elim (ℕ_discrete (highest 15 (first c)) 0) [
        | yes none ↦
            rw (taken_second c none, low)
            (tested (bit (highest 15 (reaches c)) c.level) (λ t. rw t (by_level p (highest 15 (reaches c)) h among))
            (λ t. rw t (by_number p (highest 15 (reaches c)) 0 among)))
        | no some ↦
            let level = (first_passes c some).1 in
            rw (taken_first c some, low, level) (inr (omega arith))
      ])
    where
      by_number : (p k a : ℕ) → p ≤ k → (p ≡ k) ⊎ (a + p * 32 + 32 ≤ a + k * 32)
      by_number p k a l =
          elim (ℕ_discrete p k) [
            | yes z ↦ inl z
            | no z ↦ inr (omega arith)
          ]

      by_level : (p k : ℕ) → p ≤ 15 → p ≤ k → (p ≡ k) ⊎ (0 + p * 32 + 32 ≤ 1024 + k * 32)
      by_level p k l m = inr (omega arith)

  -- a line that waits reaches the processor; an extended one is not above the highest that does
  reached :
      (n : ℕ) → 0 < n → n ≤ 31 → waits c n ≡ true →
      (reaches c (reaches_as n) ≡ true) × (0 < reaches_as n) × (reaches_as n ≤ 15) × (own_number n ≤ 31) ×
      ((own_number n ≡ 0) ⊎ ((reaches_as n ≡ 12) × (own_number n ≤ extended_line c)))
  reached n l h w =
      elim (dec_lt n 16) [
        | yes low ↦ rw (lt-leb 16 n low, w) (refl, l, omega arith, omega arith, inl refl)
        | no high ↦
            let among : n ≤ extended_line c = no_higher 31 (extends c) n h (rw (le-leb 16 n (omega arith), w) refl) in
            rw (le-leb 16 n (omega arith), lt-ltb 0 (extended_line c) (omega arith))
            (or-true (waits c 12), omega arith, omega arith, h, inr (refl, among))
      ]

  some_taken : (p : ℕ) → 0 < p → p ≤ 15 → reaches c p ≡ true → 0 < line_taken c
  some_taken p l h e =
      elim (ℕ_discrete (highest 15 (first c)) 0) [
        | yes none ↦ rw (taken_second c none) (omega (arith, no_higher 15 (reaches c) p h e))
        | no some ↦ rw (taken_first c some) (omega arith)
      ]

  -- the place of the line that is cleared
  cleared :
      0 < line_taken c →
      (x : ℕ) × (precedence c (line_cleared c) ≡ weight c (line_taken c) + x) × (line_taken c ≡ 12 → extended_line c ≤ x)
  cleared l =
      let low : line_taken c ≤ 15 = (taken_reaches c l).1 in
      elim (ℕ_discrete (line_taken c) 12) [
        | yes twelve ↦
            elim (ℕ_discrete (extended_line c) 0) [
              | yes none ↦ (0, rw (eq-eqb (line_taken c) 12 twelve, none, twelve) refl, λ is. omega arith)
              | no some ↦
                  let high : 16 ≤ extended_line c = (extended_waits c some).0 in (
                    extended_line c,
                    rw (eq-eqb (line_taken c) 12 twelve, ne_eqb (extended_line c) 0 some, le-leb 16 (extended_line c) high, twelve) refl,
                    λ is. omega arith,
                  )
            ]
        | no other ↦ (
          0,
          rw (ne_eqb (line_taken c) 12 other, lt-leb 16 (line_taken c) (omega arith)) refl,
          λ is. absurd (other is),
        )
      ]

  ordered :
      (p t own x : ℕ) → own ≤ 31 → (own ≡ 0) ⊎ ((p ≡ 12) × (own ≤ extended_line c)) → (t ≡ 12 → extended_line c ≤ x) →
      (p ≡ t) ⊎ (weight c p + 32 ≤ weight c t) → weight c p + own ≤ weight c t + x
  ordered p t own x l e f (inr later) = omega arith
  ordered p t own x l (inl none) f (inl is) = rw is (omega arith)
  ordered p t own x l (inr among) f (inl is) = rw is (omega (arith, among.1, f (sym is ∙ among.0)))

  -- If a line waits, one is taken,
  pub one_taken : (n : ℕ) → 0 < n → n ≤ 31 → waits c n ≡ true → 0 < line_taken c
  one_taken n l h w =
      let there = reached n l h w in some_taken (reaches_as n) there.1 there.2 there.0

  -- and no line that waits would have gone before the one that is cleared.
  pub none_before : (n : ℕ) → 0 < n → n ≤ 31 → waits c n ≡ true → precedence c n ≤ precedence c (line_cleared c)
  none_before n l h w =
      let there = reached n l h w in
      let after = behind (reaches_as n) there.1 there.2 there.0 in
      let place = cleared (one_taken n l h w) in
      rw place.1 (ordered (reaches_as n) (line_taken c) (own_number n) place.0 there.3 there.4 place.2 after)

-- What an acknowledge that takes a line leaves: line n has lost its force bit if that was set, else its pending bit, and nothing else
-- has changed but the number noted.
pub record Cleared (n : ℕ) (c d : Irqmp) : Type 0 where
  pub level : d.level ≡ c.level
  pub mask : d.mask ≡ c.mask
  pub force : (k : ℕ) → k < 32 → bit k d.force ≡ (bit k c.force && not (k == n))
  pub pending : (k : ℕ) → k < 32 → bit k d.pending ≡ (bit k c.pending && not (k == n && not (bit n c.force)))

take_clears : (n : ℕ) → n < 32 → (c : Irqmp) → Cleared n c (take n c)
take_clears n l c =
    tested (bit n c.force)
    (λ t.
    record {
      level = rw t refl;
      mask = rw t refl;
      force = λ k h. rw t (without_line k h c.force);
      pending = λ k h. rw t (kept_all (bit k c.pending) (k == n));
    })
    (λ f.
    record {
      level = rw f refl;
      mask = rw f refl;
      force =
          λ k h.
          rw f
          (elim (ℕ_discrete k n) [
            | yes z ↦ rw (z, f) refl
            | no z ↦ rw (ne_eqb k n z) (sym (and-true (bit k c.force)))
          ]);
      pending = λ k h. rw f (without_line k h c.pending ∙ lost (bit k c.pending) (k == n));
    })
  where
    without_line : (k : ℕ) → k < 32 → (word : ℕ) → bit k (without (2 ^ n) word) ≡ (bit k word && not (k == n))
    without_line k h word = bit_without k (2 ^ n) word (pow-lt l) h ∙ rw (bit_line k n) refl

    kept_all : (a b : Bool) → a ≡ (a && not (b && not true))
    kept_all a true = sym (and-true a)
    kept_all a false = sym (and-true a)

    lost : (a b : Bool) → (a && not b) ≡ (a && not (b && not false))
    lost a true = refl
    lost a false = refl

noting : (n e : ℕ) (c d : Irqmp) → Cleared n c d → Cleared n c (with_extended e d)
noting n e c d h = record { level = h.level; mask = h.mask; force = h.force; pending = h.pending }

module _ (c : Irqmp) (w : well_formed c ≡ true) where
  acknowledged : (0 < line_taken c) → (acknowledge c).device ≡ cond (line_taken c == 12) (take12 c) (take (line_taken c) c)
  unfolding acknowledge
  acknowledged l = rw (w, ne_eqb (line_taken c) 0 (λ z. omega arith)) refl

  -- Taking changes one bit,
  pub acknowledge_clears : 0 < line_taken c → Cleared (line_cleared c) c (acknowledge c).device
  acknowledge_clears l =
      let low : line_taken c ≤ 15 = (taken_reaches c l).1 in
      let most : extended_line c ≤ 31 = highest_le 31 (extends c) in
      let within : or_else (extended_line c) 12 < 32 =
      chosen (λ b (k : ℕ). k < 32) (extended_line c == 0) 12 (extended_line c) (omega arith) (omega arith) in
      rw (acknowledged l)
      (tested (line_taken c == 12)
      (λ twelve. rw twelve (noting _ (extended_line c) c _ (take_clears (or_else (extended_line c) 12) within c)))
      (λ other. rw other (take_clears (line_taken c) (omega arith) c)))

  -- and the number noted where 12 is taken.
  pub acknowledge_notes :
      0 < line_taken c → (acknowledge c).device.extended ≡ cond (line_taken c == 12) (extended_line c) c.extended
  acknowledge_notes l =
      rw (acknowledged l)
      (tested (line_taken c == 12) (λ twelve. rw twelve refl)
      (λ other. rw other (chosen (λ b (d : Irqmp). d.extended ≡ c.extended) (bit (line_taken c) c.force) _ _ refl refl)))

  -- Where none is taken, nothing changes.
  pub acknowledge_none : line_taken c ≡ 0 → acknowledge c ≡ accepted 0 c
  unfolding acknowledge
  acknowledge_none none = rw (w, none) refl
