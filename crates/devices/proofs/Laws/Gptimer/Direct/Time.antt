-- The direct form is what single counts, ticks and cycles do, one after another. Assumes nothing.
use Rattle.std.specs.Prelude.{◌≡◌, ℕ, zero, suc, ◌+◌, Bool, true, false, cond, not, ◌&&◌, ◌||◌, List, [], ◌∷◌}
use Rattle.std.proofs.Math.Path.{refl}
use Rattle.std.proofs.Common.{sym, arith, zero-add, one-add, ne_eqb}
use Rattle.std.proofs.Math.Nat.{suc-sub-suc, sub-zero}
use Rattle.devices.proofs.Laws.Cases.{chosen, same}
use Rattle.devices.specs.Gptimer.{count_underflows, count, counts_now, underflows_now, serve, serve_pulses}
use Rattle.devices.specs.Gptimer.{with_counter, with_en, with_ip, no_pulses, add_pulses}
use Rattle.devices.specs.Gptimer.{cycle, cycle_pulses, cycle_then, advance}
use Rattle.devices.specs.Gptimer.Direct.{ends, Counted, idle, fallen, restarted, stopped, counted}
use Rattle.devices.specs.Gptimer.Direct.{counts_in, served, served_pulses, elapsed}
use Rattle.devices.proofs.Laws.Gptimer.Direct.Countdown.{stands_none, stands_fall, stands_again, stands_past, stands_map}
use Rattle.devices.specs.declared.gptimer.Timer.{Timer}
use Rattle.devices.specs.declared.gptimer.Gptimer.{Gptimer}

-- one more, where b says so
abbrev more : Bool → ℕ → ℕ
more b n = cond b (suc n) n

-- One count of an enabled timer, and k more.
abbrev enabled : ℕ → ℕ → Bool → Bool → Bool → Bool → Timer
enabled c l rs ie ip ch = record { counter = c; reload = l; en = true; rs = rs; ie = ie; ip = ip; ch = ch }

abbrev one_more : Bool → Counted → Counted
one_more u r = record { underflows = more u r.underflows; timer = r.timer }

counted_suc :
    (k c l : ℕ) (rs ie ip ch : Bool) →
    (let t : Timer = enabled c l rs ie ip ch in
    counted (suc k) t ≡ one_more (count_underflows t) (counted k (count t)))
unfolding counted count count_underflows
counted_suc k zero l true ie ip ch =
    let t : Timer = enabled zero l true ie ip ch in
    rw (stands_again l (fallen t) (restarted t) k) (sym (stands_map (one_more true) l l _ _ k))
counted_suc k zero l false ie ip ch =
    let t : Timer = enabled zero l false ie ip ch in
    stands_past 0 l (fallen t) (λ q i. stopped t) (suc k) (omega arith)
counted_suc k (suc c) l rs ie ip ch =
    rw (ne_eqb (suc c) 0 (λ e. omega arith), suc-sub-suc c 0, sub-zero c) (stands_fall c l _ _ k)

-- a count leaves what does not look at the counter, EN and IP, as CH and IE
module _ {B : Type 0} (f : Timer → B) (t : Timer) where
  count_keeps :
      ((c : ℕ) (en ip : Bool) → f (with_ip ip (with_en en (with_counter c t))) ≡ f t) → f (count t) ≡ f t
  unfolding count
  count_keeps kept =
      chosen (λ b (x : Timer). f x ≡ f t) (count_underflows t) _ _
      (chosen (λ b (x : Timer). f (with_ip true x) ≡ f t) t.rs _ _ (kept _ _ _) (kept _ _ _)) (kept _ _ _)

-- A timer at one tick and at some more: `m` is how often the timer before it underflows in those.
module _ (ticks m : ℕ) where
  abbrev now : Bool → Timer → Timer
  now b t = cond (counts_now b t) (count t) t

  -- what the direct form says of a timer after those ticks
  record Tick (b : Bool) (t : Timer) : Type 0 where
    runs :
        counted (counts_in (suc ticks) (more b m) t) t ≡
        one_more (underflows_now b t) (counted (counts_in ticks m (now b t)) (now b t))
    ie_kept : (now b t).ie ≡ t.ie

  counting :
      (b : Bool) (k c l : ℕ) (rs ie ip ch : Bool) → (not ch || b) ≡ true →
      cond ch (more b m) (suc ticks) ≡ suc k → cond ch m ticks ≡ k →
      Tick b (enabled c l rs ie ip ch)
  counting b k c l rs ie ip ch now-too these those =
      let t : Timer = enabled c l rs ie ip ch in
      let after : counts_in ticks m (count t) ≡ k =
      rw (count_keeps (λ (x : Timer). x.ch) t (λ c en ip. refl)) those in
      record {
        runs = rw (now-too, these, after) (counted_suc k c l rs ie ip ch);
        ie_kept = rw now-too (count_keeps (λ (x : Timer). x.ie) t (λ c en ip. refl));
      }

  at_tick : (b : Bool) (t : Timer) → Tick b t
  unfolding counted
  at_tick b t = by_flags b t.counter t.reload t.en t.rs t.ie t.ip t.ch
    where
      by_flags :
          (b : Bool) (c l : ℕ) (en rs ie ip ch : Bool) →
          Tick b (record { counter = c; reload = l; en = en; rs = rs; ie = ie; ip = ip; ch = ch })
      by_flags b c l false rs ie ip ch = record { runs = refl; ie_kept = refl }
      by_flags false c l true rs ie ip true = record { runs = refl; ie_kept = refl }
      by_flags true c l true rs ie ip true = counting true m c l rs ie ip true refl refl refl
      by_flags b c l true rs ie ip false = counting b ticks c l rs ie ip false refl refl refl

served_suc :
    (ticks m : ℕ) (b : Bool) (ts : List Timer) →
    served (suc ticks) (more b m) ts ≡ served ticks m (serve b ts)
served_suc ticks m b [] = refl
served_suc ticks m b (t ∷ ts) =
    let rest : Counted = counted (counts_in ticks m (now ticks m b t)) (now ticks m b t) in
    rw ((at_tick ticks m b t).runs, served_suc ticks rest.underflows (underflows_now b t) ts) refl

pulses_more :
    (u ie ie' : Bool) (n : ℕ) → ie' ≡ ie →
    cond ie (more u n) 0 ≡ cond (u && ie) 1 0 + cond ie' n 0
pulses_more true true ie' n e = rw e (sym (one-add n))
pulses_more true false ie' n e = rw e refl
pulses_more false ie ie' n e = rw (e, zero-add) refl

served_pulses_suc :
    (ticks m : ℕ) (b : Bool) (ts : List Timer) →
    served_pulses (suc ticks) (more b m) ts ≡ add_pulses (serve_pulses b ts) (served_pulses ticks m (serve b ts))
served_pulses_suc ticks m b [] = refl
served_pulses_suc ticks m b (t ∷ ts) =
    let rest : Counted = counted (counts_in ticks m (now ticks m b t)) (now ticks m b t) in
    rw (
      (at_tick ticks m b t).runs,
      pulses_more (underflows_now b t) t.ie _ _ (at_tick ticks m b t).ie_kept,
      served_pulses_suc ticks rest.underflows (underflows_now b t) ts,
    )
    refl

-- Nothing happens in no time.
counted_none : (t : Timer) → counted (counts_in 0 0 t) t ≡ idle t
unfolding counted
counted_none t =
    rw (same t.ch zero, stands_none t.counter t.reload (fallen t) _) (same t.en (idle t))

pub served_none : (ts : List Timer) → served 0 0 ts ≡ ts
served_none [] = refl
served_none (t ∷ ts) = rw (counted_none t, served_none ts) refl

pub served_pulses_none : (ts : List Timer) → served_pulses 0 0 ts ≡ no_pulses ts
served_pulses_none [] = refl
served_pulses_none (t ∷ ts) =
    rw (counted_none t, served_pulses_none ts, same t.ie zero) refl

add_none : (ticks m : ℕ) (ts : List Timer) → add_pulses (no_pulses ts) (served_pulses ticks m ts) ≡ served_pulses ticks m ts
add_none ticks m [] = refl
add_none ticks m (t ∷ ts) = rw (zero-add, add_none ticks (counted (counts_in ticks m t) t).underflows ts) refl

-- One cycle, and n more.
elapsed_suc :
    (n v r : ℕ) (df : Bool) (ts : List Timer) →
    (let u : Gptimer = record { scaler = v; sreload = r; df = df; timers = ts } in
    cycle_then u (elapsed n (cycle u)) ≡ elapsed (suc n) u)
unfolding elapsed cycle cycle_pulses
elapsed_suc n zero r df ts =
    let m : ℕ = ends r r n in
    rw (
      stands_again r _ _ n,
      ← stands_map suc r r (λ (i : ℕ). 0) (λ q (i : ℕ). suc q) n,
      stands_again r _ _ n,
      served_pulses_suc m m true ts,
      served_suc m m true ts,
    )
    refl
elapsed_suc n (suc v) r df ts =
    let m : ℕ = ends v r n in
    rw (
      ne_eqb (suc v) 0 (λ e. omega arith),
      suc-sub-suc v 0,
      sub-zero v,
      stands_fall v r _ _ n,
      stands_fall v r _ _ n,
      add_none m m ts,
    )
    refl

pub advance_elapsed : (n : ℕ) (u : Gptimer) → advance n u ≡ elapsed n u
unfolding advance elapsed
advance_elapsed zero u =
    rw (
      stands_none u.scaler u.sreload _ _,
      stands_none u.scaler u.sreload _ _,
      served_none u.timers,
      served_pulses_none u.timers,
    )
    refl
advance_elapsed (suc n) u =
    rw (advance_elapsed n (cycle u)) (elapsed_suc n u.scaler u.sreload u.df u.timers)
