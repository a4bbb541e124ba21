-- What the code does in some counts is the direct form. Assumes nothing.
use Rattle.std.proofs.Common.{◌≡◌, ℕ, suc, ◌+◌, ◌-◌, ◌%◌, ◌^◌, arith, ◌<◌, ◌≤◌, true, false, sym, refl, ap, ◌∙◌}
use Rattle.devices.proofs.Laws.Cases.{same}
use Rattle.devices.specs.Gptimer.{with_counter, with_ip}
use Rattle.devices.specs.Gptimer.Direct.{periods, standing, stopped, counted, underflow_pulses, counts_in, counted_timer, served_timer}
use Rattle.devices.proofs.Laws.Gptimer.Direct.Countdown.{stands_first, stands_past}
use Rattle.devices.specs.declared.gptimer.Timer.{Timer}
use Rattle.devices.specs.declared.gptimer.Served.{Served}

module _ (k : ℕ) (t : Timer) where
  abbrev Counts : ℕ → ℕ → Timer → Type 0
  Counts underflows pulses after =
      ◌≡◌ {A = Served} (record { underflows = underflows; pulses = pulses; timer = after }) (counted_timer k t)

  counts_to :
      (n q : ℕ) (after : Timer) → q ≡ underflow_pulses t n → record { underflows = n; timer = after } ≡ counted k t →
      Counts n q after
  counts_to n q after e f = rw (← f, e) refl

  pub unmoved : t.en ≡ false → Counts 0 0 t
  unfolding counted
  unmoved off = counts_to 0 0 t (sym (same t.ie 0)) (rw off refl)

  pub falling :
      t.en ≡ true → k ≤ t.counter → t.counter < 2 ^ 32 →
      Counts 0 0 (with_counter ((t.counter + (2 ^ 32 - k)) % 2 ^ 32) t)
  unfolding counted
  falling on l small =
      let fell : (t.counter + (2 ^ 32 - k)) % 2 ^ 32 ≡ t.counter - k = omega arith in
      counts_to 0 0 _ (sym (same t.ie 0)) (rw (on, stands_first t.counter t.reload _ _ k l, ← fell) refl)

  pub restarting :
      (n w q : ℕ) → t.en ≡ true → t.rs ≡ true → t.counter < k →
      n ≡ suc (periods t.counter t.reload k) → w ≡ standing t.counter t.reload k → q ≡ underflow_pulses t n →
      Counts n q (with_ip true (with_counter w t))
  unfolding counted
  restarting n w q on rs l en ew e =
      counts_to n q _ e (rw (on, stands_past t.counter t.reload _ _ k l, rs, en, ew) refl)

  pub stopping :
      (q : ℕ) → t.en ≡ true → t.rs ≡ false → t.counter < k → q ≡ underflow_pulses t 1 →
      Counts 1 q (stopped t).timer
  unfolding counted
  stopping q on rs l e =
      counts_to 1 q _ e (rw (on, stands_past t.counter t.reload _ _ k l, rs) refl)

-- which counts are a timer's in some ticks
module _ (x : Served) (ticks before : ℕ) (t : Timer) where
  counts_as : (n : ℕ) → n ≡ counts_in ticks before t → x ≡ counted_timer n t → x ≡ served_timer ticks before t
  counts_as n c e = e ∙ ap (λ (k : ℕ). counted_timer k t) c

  pub chained : t.ch ≡ true → x ≡ counted_timer before t → x ≡ served_timer ticks before t
  chained ch = counts_as before (rw ch refl)

  pub unchained : t.ch ≡ false → x ≡ counted_timer ticks t → x ≡ served_timer ticks before t
  unchained ch = counts_as ticks (rw ch refl)

pub ruleset counting = (unmoved, falling, restarting, stopping, chained, unchained)
