-- When a timer underflows: it has done so j times exactly from the time on at which it does so for the j-th time. These
-- laws hold of times below `never`. Assumes nothing.
use Rattle.std.specs.Prelude.{◌≡◌, ℕ, zero, suc, ◌<◌, ◌≤◌, min, Bool, true, false, cond, List, [], ◌∷◌, length, nat_le, nat_lt, refl}
use Rattle.std.proofs.Common.{ap, sym, ◌∙◌, arith, add-one, lt_of_le_of_lt, lt_of_lt_of_le, le-leb, leb-false}
use Rattle.std.proofs.Math.Bool.{or-false, or_assoc}
use Rattle.std.proofs.lemmas.Bool.{lt-leb}
use Rattle.devices.specs.Gptimer.{place, any_pulse, advance, skip}
use Rattle.devices.specs.Gptimer.Direct.{stands, never, ends_at, once_at, Counted, idle, fallen, restarted}
use Rattle.devices.specs.Gptimer.Direct.{stopped, counted, counts_in, underflow_pulses, served_pulses, ticks_in}
use Rattle.devices.specs.Gptimer.Direct.{elapsed, due, due_tick, pulse_tick, first_tick, tick_cycle}
use Rattle.devices.proofs.Laws.Gptimer.Direct.Countdown.{Due, due_through, not_due, ends_due, once_due, earlier}
use Rattle.devices.proofs.Laws.Gptimer.Direct.Countdown.{stands_map}
use Rattle.devices.proofs.Laws.Gptimer.Direct.Time.{served_pulses_none, advance_elapsed}
use Rattle.devices.proofs.Laws.Gptimer.Pulses.{any_none}
use Rattle.devices.proofs.Laws.Gptimer.{advance_cycles, least_by, skip_least, least_unique}
use Rattle.devices.specs.declared.gptimer.Timer.{Timer}
use Rattle.devices.specs.declared.gptimer.Gptimer.{Gptimer}

-- A timer's underflows in its own counts.
pub counts_due : (k : ℕ) (t : Timer) → k < never → Due k (counted k t).underflows (λ j. due j t)
unfolding counted due
counts_due k t small = by_flags t.counter t.reload t.en t.rs
  where
    by_flags :
        (v r : ℕ) (en rs : Bool) →
        Due k
        (cond en (stands v r (fallen t) (λ q i. cond rs (restarted t q i) (stopped t)) k) (idle t)).underflows
        (λ j. cond en (cond rs (ends_at v r j) (once_at v j)) never)
    by_flags v r false rs = not_due k small
    by_flags v r true true =
        rw (stands_map (λ (x : Counted). x.underflows) v r (fallen t) (restarted t) k) (ends_due k v r small)
    by_flags v r true false =
        rw (stands_map (λ (x : Counted). x.underflows) v r (fallen t) (λ q i. stopped t) k) (once_due k v r small)

pub due_later : (j : ℕ) (t : Timer) → 0 < j → 0 < due j t
due_later j t l = (counts_due 0 t (omega arith)).later j l

-- The underflows of timer n in some ticks, those of the timer before the first being given. Before timer 1 stands the tick
-- itself.
unfoldable pub underflows_from : ℕ → ℕ → List Timer → ℕ → ℕ
underflows_from before ticks ts zero = before
underflows_from before ticks ts (suc n) =
    (counted (counts_in ticks (underflows_from before ticks ts n) (place ts n)) (place ts n)).underflows

abbrev pub underflows_at : ℕ → List Timer → ℕ → ℕ
underflows_at ticks ts n = underflows_from ticks ticks ts n

pub ticks_due : (ticks n : ℕ) (ts : List Timer) → ticks < never → Due ticks (underflows_at ticks ts n) (due_tick ts n)
unfolding underflows_from due_tick
ticks_due ticks zero ts small =
    record { few = omega arith; later = λ j l. l; by = λ j l. refl }
ticks_due ticks (suc n) ts small =
    by_chain (underflows_at ticks ts n) (due_tick ts n) (ticks_due ticks n ts small) (place ts n) (place ts n).ch
  where
    by_chain :
        (m : ℕ) (before : ℕ → ℕ) → Due ticks m before → (t : Timer) (ch : Bool) →
        Due ticks (counted (cond ch m ticks) t).underflows (λ j. cond ch (before (due j t)) (due j t))
    by_chain m before b t true =
        due_through before (λ j. due j t) b (counts_due m t (lt_of_le_of_lt b.few small))
    by_chain m before b t false = counts_due ticks t small

-- The ticks in some cycles.
pub prescaler_due : (k : ℕ) (u : Gptimer) → k < never → Due k (ticks_in k u) (tick_cycle u)
prescaler_due k u small = ends_due k u.scaler u.sreload small

-- The first pulse of the timer at place n, and of all four.
pulse_due :
    (ticks n : ℕ) (ts : List Timer) → ticks < never →
    nat_lt 0 (underflow_pulses (place ts n) (underflows_at ticks ts (suc n))) ≡ nat_le (pulse_tick ts n) ticks
pulse_due ticks n ts small =
    rw add-one
    (by_flag (underflows_at ticks ts (suc n)) (due_tick ts (suc n) 1) (place ts n).ie
    ((ticks_due ticks (suc n) ts small).by 1 (omega arith)))
  where
    by_flag :
        (m time : ℕ) (ie : Bool) → nat_le 1 m ≡ nat_le time ticks →
        nat_lt 0 (cond ie m 0) ≡ nat_le (cond ie time never) ticks
    by_flag m time true e = e
    by_flag m time false e = rw (lt-leb never ticks small) refl

-- a list of four
pub four :
    (P : List Timer → Type 0) → ((a b c d : Timer) → P (a ∷ b ∷ c ∷ d ∷ [])) → (ts : List Timer) → length ts ≡ 4 →
    P ts
four P f [] e = absurd (omega arith)
four P f (a ∷ []) e = absurd (omega arith)
four P f (a ∷ b ∷ []) e = absurd (omega arith)
four P f (a ∷ b ∷ c ∷ []) e = absurd (omega arith)
four P f (a ∷ b ∷ c ∷ d ∷ []) e = f a b c d
four P f (a ∷ b ∷ c ∷ d ∷ x ∷ ts) e = absurd (omega arith)

first_due :
    (ticks : ℕ) (ts : List Timer) → length ts ≡ 4 → ticks < never →
    any_pulse (served_pulses ticks ticks ts) ≡ nat_le (first_tick ts) ticks
unfolding underflows_from
first_due ticks ts e small =
    four (λ ts. any_pulse (served_pulses ticks ticks ts) ≡ nat_le (first_tick ts) ticks)
    (λ a b c d.
    let ts : List Timer = a ∷ b ∷ c ∷ d ∷ [] in
    rw (
      pulse_due ticks 0 ts small,
      pulse_due ticks 1 ts small,
      pulse_due ticks 2 ts small,
      pulse_due ticks 3 ts small,
      or-false,
      ← or_assoc,
      earlier,
      earlier,
      earlier,
    )
    refl)
    ts e

pub first_later : (ts : List Timer) → length ts ≡ 4 → 0 < first_tick ts
first_later ts whole =
    leb-false (first_tick ts) 0
    (sym (first_due 0 ts whole (omega arith)) ∙ ap any_pulse (served_pulses_none ts) ∙ any_none ts)

-- Some timer has pulsed exactly from the cycle of the first pulse's tick on.
cycles_due :
    (n : ℕ) (u : Gptimer) → length u.timers ≡ 4 → n < never →
    any_pulse (advance n u).pulses ≡ nat_le (tick_cycle u (first_tick u.timers)) n
unfolding elapsed
cycles_due n u whole small =
    let ticks : Due n (ticks_in n u) (tick_cycle u) = prescaler_due n u small in
    rw (advance_elapsed n u)
    (first_due (ticks_in n u) u.timers whole (lt_of_le_of_lt ticks.few small) ∙
    ticks.by (first_tick u.timers) (first_later u.timers whole))

-- So a skip is an advance to that cycle, or to the limit.
pub skip_advance :
    (limit : ℕ) (u : Gptimer) → length u.timers ≡ 4 → limit ≤ never →
    skip limit u ≡ advance (min (tick_cycle u (first_tick u.timers)) limit) u
skip_advance limit u whole small =
    by_least (tick_cycle u (first_tick u.timers)) (λ k l. cycles_due k u whole (lt_of_lt_of_le l small))
  where
    by_least :
        (d : ℕ) → ((k : ℕ) → k < limit → any_pulse (advance k u).pulses ≡ nat_le d k) →
        skip limit u ≡ advance (min d limit) u
    by_least d by =
        let n : ℕ = min d limit in
        let c : (advance n u).cycles ≡ n = advance_cycles n u in
        least_unique limit u _ _ (skip_least limit u)
        (least_by limit u _ (ap (λ (k : ℕ). advance k u) (sym c)) (omega arith)
        (λ k l. by k (omega arith) ∙ lt-leb d k (omega arith))
        (λ l. rw c (by n (omega arith) ∙ le-leb d n (omega arith))))
