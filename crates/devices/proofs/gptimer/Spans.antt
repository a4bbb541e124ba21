-- What the code does with a span, and with the time of a pulse, is the direct form. Assumes nothing.
use Rattle.std.proofs.Common.{◌≡◌, ℕ, zero, suc, ◌-◌, ◌^◌, ◌<◌, ◌≤◌, min, true, false, cond, ltb, List, [], ◌∷◌, length, sym, refl, ◌∙◌, arith, ltb-true, le-ltb, lt-ltb, ne_eqb}
use Rattle.std.specs.Prelude.{Option, Some, None}
use Prim.Native.Nat.compare
use native.Mathlib.Nat.{suc-sub-suc, sub-zero}
use Rattle.devices.proofs.Laws.Cases.{same}
use Rattle.devices.proofs.Laws.Lists.{length_of}
use Rattle.devices.specs.Gptimer.{place, with_scaler, with_timers, no_pulses, cycle, advance}
use Rattle.devices.specs.Gptimer.Span.{pass, most, any_tick, counted_down, Tells}
use Rattle.devices.specs.Gptimer.Direct.{periods, standing, ends_at, counted_timer, served_timer}
use Rattle.devices.specs.Gptimer.Direct.{ticked, elapsed, due, due_tick, first_tick, tick_cycle}
use Rattle.devices.proofs.Laws.Gptimer.Direct.Countdown.{stands_first, stands_past}
use Rattle.devices.proofs.Laws.Gptimer.Direct.Time.{served_none, served_pulses_none, advance_elapsed}
use Rattle.devices.proofs.Laws.Gptimer.Direct.Due.{four, skip_advance, due_later, first_later}
use Rattle.devices.specs.declared.gptimer.Timer.{Timer}
use Rattle.devices.specs.declared.gptimer.Served.{Served}
use Rattle.devices.specs.declared.gptimer.Gptimer.{Gptimer}
use Rattle.devices.specs.declared.gptimer.Elapsed.{Elapsed}
use Rattle.devices.specs.declared.gptimer.Span.{Span}
use Rattle.devices.specs.declared.gptimer.Span.TheVariants.{Cycles, ToPulse}
use Rattle.devices.specs.declared.gptimer.Short.{Short}

shape : (ts : List Timer) → length ts ≡ 4 → ts ≡ place ts 0 ∷ place ts 1 ∷ place ts 2 ∷ place ts 3 ∷ []
shape ts whole =
    four (λ ts. ts ≡ place ts 0 ∷ place ts 1 ∷ place ts 2 ∷ place ts 3 ∷ []) (λ a b c d. refl) ts whole

-- the four timers, one after the other
pub ticks_by :
    (cycles ticks : ℕ) (u : Gptimer) (a b c d : Served) → length u.timers ≡ 4 →
    a ≡ counted_timer ticks (place u.timers 0) →
    b ≡ served_timer ticks a.underflows (place u.timers 1) →
    c ≡ served_timer ticks b.underflows (place u.timers 2) →
    d ≡ served_timer ticks c.underflows (place u.timers 3) →
    ◌≡◌ {A = Elapsed}
    (record {
      cycles = cycles;
      pulses = a.pulses ∷ b.pulses ∷ c.pulses ∷ d.pulses ∷ [];
      unit = with_timers (a.timer ∷ b.timer ∷ c.timer ∷ d.timer ∷ []) u;
    })
    (ticked cycles ticks u)
ticks_by cycles ticks u a b c d whole ea eb ec ed =
    rw (shape u.timers whole, same (place u.timers 0).ch ticks, ed, ec, eb, ea) refl

-- a tick comes in more cycles than the prescaler's value, and at none of so many
ticks_past : (n v : ℕ) (u : Gptimer) → u.scaler ≡ v → any_tick n u ≡ ltb v n
unfolding any_tick cycle
ticks_past zero v u e = sym (le-ltb v 0 (omega arith))
ticks_past (suc n) zero u e = rw e (sym (lt-ltb 0 (suc n) (omega arith)))
ticks_past (suc n) (suc v) u e =
    rw (e, ne_eqb (suc v) 0 (omega arith), compare.suc-suc)
    (ticks_past n v (with_scaler (suc v - 1) u) (rw (suc-sub-suc v 0, sub-zero v) refl))

tick_later : (u : Gptimer) (j : ℕ) → u.scaler < 2 ^ 16 → u.scaler < tick_cycle u j
unfolding ends_at
tick_later u j small = omega arith

-- a span before the next tick
counted_down_lem : (u : Gptimer) (n : ℕ) → length u.timers ≡ 4 → n ≤ u.scaler → advance n u ≡ counted_down n (u.scaler - n) u
unfolding elapsed
counted_down_lem u n whole l =
    rw (
      advance_elapsed n u,
      stands_first u.scaler u.sreload _ _ n l,
      stands_first u.scaler u.sreload _ _ n l,
      served_none u.timers,
      served_pulses_none u.timers,
      four (λ ts. no_pulses ts ≡ 0 ∷ 0 ∷ 0 ∷ 0 ∷ []) (λ a b c d. refl) u.timers whole,
    )
    refl

module _ (u : Gptimer) (span : Span) (n : ℕ) (e : n ≡ most span) where
  pub no_tick : n ≤ u.scaler → any_tick (most span) u ≡ false
  no_tick l = rw (← e) (ticks_past n u.scaler u refl ∙ le-ltb u.scaler n l)

  pub has_tick : u.scaler < n → any_tick (most span) u ≡ true
  has_tick l = rw (← e) (ticks_past n u.scaler u refl ∙ lt-ltb u.scaler n l)

  pub ends_before :
      length u.timers ≡ 4 → u.scaler < 2 ^ 16 → n ≤ u.scaler → pass span u ≡ counted_down n (u.scaler - n) u
  ends_before whole small l = rw e (by_kind span (rw e at l))
    where
      by_kind : (s : Span) → most s ≤ u.scaler → pass s u ≡ counted_down (most s) (u.scaler - most s) u
      by_kind (Cycles k) l = counted_down_lem u k whole l
      by_kind (ToPulse k) l =
          let limit : min (tick_cycle u (first_tick u.timers)) k ≡ k =
          omega (arith, tick_later u (first_tick u.timers) small) in
          skip_advance k u whole (omega arith) ∙ rw limit (counted_down_lem u k whole l)

-- what is told of an advance
module _ (u : Gptimer) (n : ℕ) (t : Option Short) (tells : Tells (Cycles n) u t) where
  pub told_short : (s : Short) → t ≡ Some s → counted_down s.cycles s.scaler u ≡ advance n u
  told_short s e = sym (rw e at tells).1

  pub told_long : t ≡ None → u.scaler < n
  told_long e = ltb-true u.scaler n (sym (ticks_past n u.scaler u refl) ∙ rw e at tells)

-- a span past it
pub past_tick :
    (x : Elapsed) (u : Gptimer) (n m w : ℕ) → u.scaler < n → m ≡ suc (periods u.scaler u.sreload n) →
    w ≡ standing u.scaler u.sreload n → x ≡ ticked n m (with_scaler w u) → x ≡ advance n u
unfolding elapsed
past_tick x u n m w l em ew e =
    rw (
      advance_elapsed n u,
      stands_past u.scaler u.sreload _ _ n l,
      stands_past u.scaler u.sreload _ _ n l,
      ← em,
      ← ew,
    )
    e

-- where the prescaler then stands fits into the code's word
pub standing_small : (w v r k : ℕ) → w ≡ standing v r k → r < 2 ^ 16 → w < 2 ^ 16
standing_small w v r k e small = omega arith

-- the cycles that a span comes to: a skip goes to the next pulse or to its limit, whichever is earlier
module _ (u : Gptimer) (span : Span) (n : ℕ) where
  pub by_cycles : span ≡ Cycles n → advance n u ≡ pass span u
  by_cycles e = rw e refl

  pub to_pulse :
      (limit d : ℕ) → span ≡ ToPulse limit → length u.timers ≡ 4 → limit < 2 ^ 64 →
      d ≡ tick_cycle u (first_tick u.timers) → n ≡ min d limit → advance n u ≡ pass span u
  to_pulse limit d e whole small due earlier =
      rw (e, skip_advance limit u whole (omega arith), ← due, ← earlier) refl

-- the first pulse of all
pub first_after : (ts : List Timer) (m : ℕ) → length ts ≡ 4 → m ≡ first_tick ts → 0 < m
first_after ts m whole e = rw e (first_later ts whole)

pub cycle_of :
    (u : Gptimer) (r m : ℕ) → m ≡ first_tick u.timers → r ≡ ends_at u.scaler u.sreload m →
    r ≡ tick_cycle u (first_tick u.timers)
cycle_of u r m em e = rw (← em) e

-- one step up the chain
due_tick_at :
    (ts : List Timer) (at j : ℕ) → 0 < at →
    (let t : Timer = place ts (at - 1) in due_tick ts at j ≡ cond t.ch (due_tick ts (at - 1) (due j t)) (due j t))
unfolding due_tick
due_tick_at ts zero j more = absurd (omega arith)
due_tick_at ts (suc n) j more = rw (suc-sub-suc n 0, sub-zero n) refl

pub step_chained :
    (ts : List Timer) (at j d x : ℕ) → 0 < at → d ≡ due j (place ts (at - 1)) → (place ts (at - 1)).ch ≡ true →
    due_tick ts at j ≡ x → due_tick ts (at - 1) d ≡ x
step_chained ts at j d x more e ch f = rw e (sym (due_tick_at ts at j more ∙ rw ch refl) ∙ f)

pub step_free :
    (ts : List Timer) (at j d x : ℕ) → 0 < at → d ≡ due j (place ts (at - 1)) → (place ts (at - 1)).ch ≡ false →
    due_tick ts at j ≡ x → d ≡ x
step_free ts at j d x more e ch f = e ∙ sym (due_tick_at ts at j more ∙ rw ch refl) ∙ f

pub step_none : (ts : List Timer) (at j x : ℕ) → at ≤ 0 → due_tick ts at j ≡ x → j ≡ x
unfolding due_tick
step_none ts zero j x none f = f
step_none ts (suc n) j x none f = absurd (omega arith)

pub step_later : (j d : ℕ) (t : Timer) → d ≡ due j t → 0 < j → 0 < d
step_later j d t e l = rw e (due_later j t l)

-- What each of the code's functions needs.
pub ruleset tells = (no_tick, has_tick, ends_before, length_of)

pub ruleset told = (told_short, told_long)

pub ruleset past = (past_tick, standing_small)

pub ruleset comes_to = (by_cycles, to_pulse, length_of)

pub ruleset pulses_at = (first_after, cycle_of, length_of)
