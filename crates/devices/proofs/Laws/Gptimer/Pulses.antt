-- Laws of pulse counts: of adding them timer by timer, of no pulses, and of those of one cycle. Assumes nothing.
use Rattle.std.specs.Prelude.{◌≡◌, ℕ, zero, suc, ◌+◌, ◌≤◌, Bool, true, false, ◌&&◌, ◌||◌, List, [], ◌∷◌, ◌==◌, nat_lt, slice_index, refl}
use Rattle.std.proofs.Common.{sym, true≢false, zero-add, add-zero, add_assoc, arith, lt-ltb, ltb-false}
use Rattle.std.proofs.Math.Bool.{or-false, or-true}
use Rattle.std.proofs.Math.Decide.{dec_lt}
use Rattle.devices.proofs.Laws.Cases.{chosen}
use Rattle.devices.specs.Gptimer.{serve_pulses, underflows_now, add_pulses, any_pulse, no_pulses, cycle_pulses, advance}
use Rattle.devices.specs.declared.gptimer.Timer.{Timer}
use Rattle.devices.specs.declared.gptimer.Gptimer.{Gptimer}

pub adds_assoc : (xs ys zs : List ℕ) → add_pulses (add_pulses xs ys) zs ≡ add_pulses xs (add_pulses ys zs)
adds_assoc [] ys zs = refl
adds_assoc (x ∷ xs) [] zs = refl
adds_assoc (x ∷ xs) (y ∷ ys) [] = refl
adds_assoc (x ∷ xs) (y ∷ ys) (z ∷ zs) = rw (add_assoc, adds_assoc xs ys zs) refl

-- some pulse is in a sum exactly if one is in a part
pub some_pulse : (x y : ℕ) → nat_lt 0 (x + y) ≡ (nat_lt 0 x || nat_lt 0 y)
some_pulse x y =
    elim (dec_lt 0 x) [
      | yes l ↦ rw (lt-ltb 0 x l, lt-ltb 0 (x + y) (omega arith)) refl
      | no l ↦ let z : x ≡ 0 = omega arith in rw (z, zero-add) refl
    ]

four_ways : (a b c d : Bool) → ((a || b) || (c || d)) ≡ ((a || c) || (b || d))
four_ways true b c d = refl
four_ways false true c d = sym (or-true c)
four_ways false false c d = refl

pub any_add : (xs ys : List ℕ) → any_pulse (add_pulses xs ys) ≡ (any_pulse xs || any_pulse ys)
any_add [] ys = refl
any_add (x ∷ xs) [] = sym (or-false (nat_lt 0 x || any_pulse xs))
any_add (x ∷ xs) (y ∷ ys) = rw (some_pulse x y, any_add xs ys) (four_ways (nat_lt 0 x) (nat_lt 0 y) (any_pulse xs) (any_pulse ys))

pub any_none : (ts : List Timer) → any_pulse (no_pulses ts) ≡ false
any_none [] = refl
any_none (t ∷ ts) = any_none ts

-- Adding no pulses changes nothing.
none_none : (ts : List Timer) → add_pulses (no_pulses ts) (no_pulses ts) ≡ no_pulses ts
none_none [] = refl
none_none (t ∷ ts) = rw (none_none ts) refl

none_served : (b : Bool) (ts : List Timer) → add_pulses (no_pulses ts) (serve_pulses b ts) ≡ serve_pulses b ts
none_served b [] = refl
none_served b (t ∷ ts) = rw (zero-add, none_served (underflows_now b t) ts) refl

none_pulses : (u : Gptimer) → add_pulses (no_pulses u.timers) (cycle_pulses u) ≡ cycle_pulses u
unfolding cycle_pulses
none_pulses u =
    chosen (λ b (xs : List ℕ). add_pulses (no_pulses u.timers) xs ≡ xs) (u.scaler == 0) _ _
    (none_served true u.timers) (none_none u.timers)

pub none_advance : (n : ℕ) (u : Gptimer) → add_pulses (no_pulses u.timers) (advance n u).pulses ≡ (advance n u).pulses
unfolding advance
none_advance zero u = none_none u.timers
none_advance (suc n) u = rw (← adds_assoc, none_pulses u) refl

-- The count of one timer.
pub at_add : (i : ℕ) (xs ys : List ℕ) → slice_index (add_pulses xs ys) i ≡ slice_index xs i + slice_index ys i
at_add i [] ys = rw zero-add refl
at_add i (x ∷ xs) [] = rw add-zero refl
at_add zero (x ∷ xs) (y ∷ ys) = refl
at_add (suc i) (x ∷ xs) (y ∷ ys) = at_add i xs ys

neither : (a b : Bool) → (a || b) ≡ false → (a ≡ false) × (b ≡ false)
neither true b e = absurd (true≢false e)
neither false b e = (refl, e)

pub at_quiet : (i : ℕ) (xs : List ℕ) → any_pulse xs ≡ false → slice_index xs i ≡ 0
at_quiet i [] e = refl
at_quiet zero (x ∷ xs) e = let z : x ≤ 0 = ltb-false 0 x (neither (nat_lt 0 x) (any_pulse xs) e).0 in omega arith
at_quiet (suc i) (x ∷ xs) e = at_quiet i xs (neither (nat_lt 0 x) (any_pulse xs) e).1

pub at_none : (i : ℕ) (ts : List Timer) → slice_index (no_pulses ts) i ≡ 0
at_none i ts = at_quiet i (no_pulses ts) (any_none ts)

at_served : (i : ℕ) (b : Bool) (ts : List Timer) → slice_index (serve_pulses b ts) i ≤ 1
at_served i b [] = omega arith
at_served zero b (t ∷ ts) = chosen (λ b (n : ℕ). n ≤ 1) (underflows_now b t && t.ie) 1 0 (omega arith) (omega arith)
at_served (suc i) b (t ∷ ts) = at_served i (underflows_now b t) ts

pub at_pulses : (i : ℕ) (u : Gptimer) → slice_index (cycle_pulses u) i ≤ 1
unfolding cycle_pulses
at_pulses i u =
    chosen (λ b (xs : List ℕ). slice_index xs i ≤ 1) (u.scaler == 0) _ _ (at_served i true u.timers)
    (rw (at_none i u.timers) (omega arith))
