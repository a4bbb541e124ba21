-- Laws of the ring, over its depth `d`, its places `b`, the head `h` and the count `n`. Assumes nothing.
use Rattle.std.proofs.Common.{◌≡◌, ℕ, zero, suc, ◌+◌, ◌-◌, ◌%◌, ◌<◌, List, [], ◌∷◌, ◌++◌, length, get_or, set, sym, refl, ap, add-zero, add-suc, mod-lt, mod-eq_of_lt, suc-add, add-one, sub-one, arith, get_or-set_other, get_or-set_same}
use native.Mathlib.Nat.{mod-eq-sub-mod, mod-mod, mod-add-mod, suc-mod}
use native.Mathlib.Decide.{dec_lt}
use Rattle.devices.specs.Apbuart.{depth, oldest, younger}
use Rattle.devices.specs.Fifo.{ring, queued}
use Rattle.devices.specs.declared.fifo.Fifo.{Fifo}

-- two places fewer than `d` apart are different places
apart : (d h k : ℕ) → 0 < k → k < d → (h + k) % d ≡ h % d → ⊥
apart d h k pos small same =
    elim (dec_lt (h % d + k) d) [
      | yes l ↦ let e : (h % d + k) % d ≡ h % d + k = mod-eq_of_lt l in omega (arith, mod-add-mod h d k)
      | no l ↦
          let r : h % d < d = mod-lt h (omega arith) in
          let e : (h % d + k) % d ≡ (h % d + k - d) % d = mod-eq-sub-mod (omega arith) in
          let f : (h % d + k - d) % d ≡ h % d + k - d = mod-eq_of_lt (omega arith) in
          omega (arith, mod-add-mod h d k)
    ]

module _ (d : ℕ) (b : List ℕ) where
  pub ring_length : (h n : ℕ) → length (ring d b h n) ≡ n
  ring_length h zero = refl
  ring_length h (suc n) = ap suc (ring_length (suc h) n)

  -- the head counts modulo the depth
  pub ring_mod : (h k n : ℕ) → h % d ≡ k % d → ring d b h n ≡ ring d b k n
  ring_mod h k zero e = refl
  ring_mod h k (suc n) e = rw (e, ring_mod (suc h) (suc k) n (rw (suc-mod h d, e, ← suc-mod k d)))

  -- one more at the end
  ring_more : (h n : ℕ) → ring d b h (suc n) ≡ ring d b h n ++ (get_or b ((h + n) % d) 0 ∷ [])
  ring_more h zero = rw add-zero
  ring_more h (suc n) = rw (add-suc, ← suc-add) (ap (λ (l : List ℕ). get_or b (h % d) 0 ∷ l) (ring_more (suc h) n))

  -- a place that holds none of the bytes may change
  ring_beside :
      (i x h n : ℕ) → ((j : ℕ) → j < n → (h + j) % d ≡ i → ⊥) →
      ring d (set b i x) h n ≡ ring d b h n
  ring_beside i x h zero other = refl
  ring_beside i x h (suc n) other =
      rw (
        get_or-set_other b i (h % d) x 0 (λ e. other 0 (omega arith) (rw add-zero e)),
        ring_beside i x (suc h) n (λ j l e. other (suc j) (omega arith) (rw (add-suc, ← suc-add) e)),
      )

-- room for a byte, by the bytes that wait
pub has_room : (f : Fifo) (n : ℕ) → n ≡ length (queued f) → n < depth → f.count < depth
has_room f n e l = rw (← ring_length depth f.places f.head f.count, ← e) l

-- a byte stored behind the last one joins the end
pub ring_push :
    (d : ℕ) (b : List ℕ) (h n x : ℕ) → n < d → length b ≡ d →
    ring d (set b ((h + n) % d) x) h (n + 1) ≡ ring d b h n ++ (x ∷ [])
ring_push d b h n x room whole =
    let within : (h + n) % d < length b = rw whole (mod-lt (h + n) (omega arith)) in
    rw (
      add-one,
      ring_more d (set b ((h + n) % d) x) h n,
      ring_beside d b ((h + n) % d) x h n
          (λ j l e.
          let behind : h + j + (n - j) ≡ h + n = omega arith in
          apart d (h + j) (n - j) (omega arith) (omega arith) (rw behind (sym e))),
      get_or-set_same b ((h + n) % d) x 0,
    )

module _ (d : ℕ) (b : List ℕ) (h : ℕ) where
  -- the oldest byte stands at the head, and the younger ones behind it
  pub ring_oldest : (n : ℕ) → (n ≡ 0 → ⊥) → get_or b (h % d) 0 ≡ oldest (ring d b h n)
  ring_oldest zero some = absurd (some refl)
  ring_oldest (suc n) some = refl

  pub ring_younger : (n : ℕ) → (n ≡ 0 → ⊥) → ring d b ((h + 1) % d) (n - 1) ≡ younger (ring d b h n)
  ring_younger zero some = absurd (some refl)
  ring_younger (suc n) some = rw (add-one, sub-one) (ring_mod d b (suc h % d) (suc h) n (mod-mod (suc h) d))
