-- A countdown in one count more, and when it ends. Assumes nothing.
use Rattle.std.specs.Prelude.{◌≡◌, ℕ, suc, ◌+◌, ◌-◌, ◌*◌, ◌%◌, ◌<◌, ◌≤◌, min, cond, ◌||◌, ◌==◌, nat_le}
use Rattle.std.proofs.Math.Path.{refl}
use Rattle.std.proofs.Common.{◌∙◌, le-div_iff_mul-le, le_trans, le-leb, eq-eqb, ne_eqb}
use Rattle.std.proofs.Math.Nat.{div-eq_of_lt, div-eq-sub-div, mod-eq_of_lt, mod-eq-sub-mod, div-le_self, suc-sub-suc, sub-zero}
use Rattle.std.proofs.Math.Numerals.{add-one}
use Rattle.std.proofs.Math.Decide.{dec_lt, ℕ_discrete}
use native.Mathlib.Omega.{arith}
use Rattle.std.proofs.Math.Dec.{leb-suc-suc}
use Rattle.std.proofs.lemmas.Bool.{lt-leb}
use Rattle.devices.proofs.Laws.Cases.{chosen}
use Rattle.devices.specs.Gptimer.Direct.{periods, standing, stands, ends, once, ends_at, once_at, never}

module _ {A : Type 0} where
  -- while it has not ended, before its first count, and once it has ended
  pub stands_first : (v r : ℕ) (f : ℕ → A) (g : ℕ → ℕ → A) (k : ℕ) → k ≤ v → stands v r f g k ≡ f (v - k)
  unfolding stands
  stands_first v r f g k l = rw (le-leb k v l) refl

  pub stands_none : (v r : ℕ) (f : ℕ → A) (g : ℕ → ℕ → A) → stands v r f g 0 ≡ f v
  stands_none v r f g = rw (stands_first v r f g 0 (omega arith), sub-zero v) refl

  pub stands_past :
      (v r : ℕ) (f : ℕ → A) (g : ℕ → ℕ → A) (k : ℕ) → v < k → stands v r f g k ≡ g (periods v r k) (standing v r k)
  unfolding stands
  stands_past v r f g k l = rw (lt-leb k v l) refl

  -- a count above 0, and one at 0
  pub stands_fall : (v r : ℕ) (f : ℕ → A) (g : ℕ → ℕ → A) (k : ℕ) → stands (suc v) r f g (suc k) ≡ stands v r f g k
  unfolding stands
  stands_fall v r f g k = rw (leb-suc-suc k v, suc-sub-suc v k, suc-sub-suc k (suc v)) refl

  pub stands_again :
      (r : ℕ) (f : ℕ → A) (g : ℕ → ℕ → A) (k : ℕ) →
      stands 0 r f g (suc k) ≡ stands r r (g 0) (λ q. g (suc q)) k
  unfolding stands
  stands_again r f g k =
      rw (lt-leb (suc k) 0 (omega arith), suc-sub-suc k 0, sub-zero k)
      (elim (dec_lt r k) [
        | yes l ↦
            let pos : 0 < suc r = omega arith in
            let m : k % suc r ≡ (k - suc r) % suc r = mod-eq-sub-mod (omega arith) in
            rw (lt-leb k r l, div-eq-sub-div {n = k} pos (omega arith), add-one, m) refl
        | no l ↦
            let small : k < suc r = omega arith in
            rw (le-leb k r (omega arith), div-eq_of_lt small, mod-eq_of_lt small) refl
      ])

  -- what is read off it
  pub stands_map :
      {B : Type 0} (h : A → B) (v r : ℕ) (f : ℕ → A) (g : ℕ → ℕ → A) (k : ℕ) →
      h (stands v r f g k) ≡ stands v r (λ i. h (f i)) (λ q i. h (g q i)) k
  unfolding stands
  stands_map h v r f g k =
      chosen (λ b x. h x ≡ cond b (h (f (v - k))) (h (g (periods v r k) (standing v r k)))) (nat_le k v) _ _ refl refl

-- Something happens m times in k steps, the j-th time at step `time j`; at `never` stands what is not seen in fewer steps.
pub record Due (k m : ℕ) (time : ℕ → ℕ) : Type 0 where
  pub few : m ≤ k
  pub later : (j : ℕ) → 0 < j → 0 < time j
  pub by : (j : ℕ) → 0 < j → nat_le j m ≡ nat_le (time j) k

-- what happens at steps that themselves are due
pub due_through :
    {k m n : ℕ} (outer inner : ℕ → ℕ) → Due k m outer → Due m n inner → Due k n (λ j. outer (inner j))
due_through outer inner o i =
    record {
      few = le_trans i.few o.few;
      later = λ j l. o.later (inner j) (i.later j l);
      by = λ j l. i.by j l ∙ o.by (inner j) (i.later j l);
    }

-- two tests that pass together
leb_both : (a b c d : ℕ) → (a ≤ b → c ≤ d) → (c ≤ d → a ≤ b) → nat_le a b ≡ nat_le c d
leb_both a b c d f g =
    elim (dec_lt b a) [
      | yes l ↦
          elim (dec_lt d c) [
            | yes m ↦ rw (lt-leb a b l, lt-leb c d m) refl
            | no m ↦ let no_more : a ≤ b = g (omega arith) in absurd (omega arith)
          ]
      | no l ↦ rw (le-leb a b (omega arith), le-leb c d (f (omega arith))) refl
    ]

pub earlier : (a b k : ℕ) → (nat_le a k || nat_le b k) ≡ nat_le (min a b) k
earlier a b k =
    elim (dec_lt k a) [
      | yes l ↦ rw (lt-leb a k l) (leb_both b k (min a b) k (λ q. omega arith) (λ q. omega arith))
      | no l ↦ rw (le-leb a k (omega arith), le-leb (min a b) k (omega arith)) refl
    ]

-- what does not happen, and both countdowns
pub not_due : (k : ℕ) → k < never → Due k 0 (λ j. never)
not_due k small =
    record {
      few = omega arith;
      later = λ j l. omega arith;
      by = λ j l. rw (lt-leb j 0 l, lt-leb never k small) refl;
    }

module _ (k v r : ℕ) (small : k < never) where
  pub ends_due : Due k (ends v r k) (ends_at v r)
  unfolding stands ends_at
  ends_due =
      elim (dec_lt v k) [
        | yes l ↦
            rw (lt-leb k v l)
            (record {
              few = omega (arith, div-le_self (k - suc v) (suc r));
              later = λ j q. omega arith;
              by =
                  λ j q.
                  leb_both j (suc (periods v r k)) (min (suc v + (j - 1) * suc r) never) k
                  (λ m. let n : (j - 1) * suc r ≤ k - suc v = (le-div_iff_mul-le (omega arith)).0 (omega arith) in omega arith)
                  (λ m. let n : j - 1 ≤ periods v r k = (le-div_iff_mul-le (omega arith)).1 (omega arith) in omega arith);
            })
        | no l ↦
            rw (le-leb k v (omega arith))
            (record {
              few = omega arith;
              later = λ j q. omega arith;
              by = λ j q. leb_both j 0 (min (suc v + (j - 1) * suc r) never) k (λ m. omega arith) (λ m. omega arith);
            })
      ]

  -- its first end is due as that of the other, and it has no second
  pub once_due : Due k (once v r k) (once_at v)
  unfolding stands once_at
  once_due =
      elim (dec_lt v k) [
        | yes l ↦
            rw (lt-leb k v l)
            (record { few = omega arith; later = later; by = by 1 (omega arith) (λ m. omega arith) (λ m. omega arith) })
        | no l ↦
            rw (le-leb k v (omega arith))
            (record { few = omega arith; later = later; by = by 0 (omega arith) (λ m. omega arith) (λ m. omega arith) })
      ]
    where
      later : (j : ℕ) → 0 < j → 0 < cond (j == 1) (suc v) never
      later j q = chosen (λ b x. 0 < x) (j == 1) _ _ (omega arith) (omega arith)

      by :
          (m : ℕ) → m ≤ 1 → (1 ≤ m → suc v ≤ k) → (suc v ≤ k → 1 ≤ m) → (j : ℕ) → 0 < j →
          nat_le j m ≡ nat_le (cond (j == 1) (suc v) never) k
      by m most f g j q =
          elim (ℕ_discrete j 1) [
            | yes e ↦ rw (eq-eqb j 1 e, e) (leb_both 1 m (suc v) k f g)
            | no e ↦ rw (ne_eqb j 1 e) (leb_both j m never k (λ n. omega arith) (λ n. omega arith))
          ]
