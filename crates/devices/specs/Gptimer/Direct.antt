-- The direct form: what many counts, ticks or cycles do, worked out by a division. It is what the code computes. No
-- contract of a public call cites it, and none of it is trusted: `Time` and `Due` below prove it of single cycles.
use Rattle.std.specs.Prelude.{ℕ, zero, suc, ◌+◌, ◌-◌, ◌*◌, ◌/◌, ◌%◌, ◌^◌, min, true, false, cond, List, [], ◌∷◌, ◌==◌, nat_le}
use Rattle.devices.specs.Gptimer.{with_scaler, with_timers, with_counter, with_en, with_ip, place}
use Rattle.devices.specs.declared.gptimer.Timer.{Timer}
use Rattle.devices.specs.declared.gptimer.Gptimer.{Gptimer}
use Rattle.devices.specs.declared.gptimer.Elapsed.{Elapsed}
use Rattle.devices.specs.declared.gptimer.Served.{Served}

-- A countdown that stands at v and starts again from r: it ends at its (v + 1)-th count, the one that finds it at 0, and then
-- at every (r + 1)-th. After k counts of which one or more ended it: the whole periods since its first end, and where it
-- stands.
abbrev pub periods : ℕ → ℕ → ℕ → ℕ
periods v r k = (k - suc v) / suc r

abbrev pub standing : ℕ → ℕ → ℕ → ℕ
standing v r k = r - (k - suc v) % suc r

-- What it comes to after k counts, by where it stands: `first` where it has not ended, else `again`, which is given the whole
-- periods too.
unfoldable pub stands : {A : Type 0} → ℕ → ℕ → (ℕ → A) → (ℕ → ℕ → A) → ℕ → A
stands v r first again k = cond (nat_le k v) (first (v - k)) (again (periods v r k) (standing v r k))

-- where it stands, how often it has ended, and how often one has that stops at its first end, whatever r is
abbrev pub value : ℕ → ℕ → ℕ → ℕ
value v r k = stands v r (λ i. i) (λ q i. i) k

abbrev pub ends : ℕ → ℕ → ℕ → ℕ
ends v r k = stands v r (λ i. 0) (λ q i. suc q) k

abbrev pub once : ℕ → ℕ → ℕ → ℕ
once v r k = stands v r (λ i. 0) (λ q i. 1) k

-- The count at which each ends for the j-th time. Where that is no 64-bit number, or never, `never` stands for it.
abbrev pub never : ℕ
never = 2 ^ 64 - 1

unfoldable pub ends_at : ℕ → ℕ → ℕ → ℕ
ends_at v r j = min (suc v + (j - 1) * suc r) never

unfoldable pub once_at : ℕ → ℕ → ℕ
once_at v j = cond (j == 1) (suc v) never

-- A timer in k counts: how often it underflows, and the timer after them.
pub record Counted : Type 0 where
  pub underflows : ℕ
  pub timer : Timer

abbrev pub idle : Timer → Counted
idle t = record { underflows = 0; timer = t }

abbrev pub fallen : Timer → ℕ → Counted
fallen t counter = record { underflows = 0; timer = with_counter counter t }

-- once it has underflowed: by RS it restarts, or comes to rest
abbrev pub restarted : Timer → ℕ → ℕ → Counted
restarted t q counter = record { underflows = suc q; timer = with_ip true (with_counter counter t) }

abbrev pub stopped : Timer → Counted
stopped t = record { underflows = 1; timer = with_ip true (with_en false (with_counter 0xFFFFFFFF t)) }

unfoldable pub counted : ℕ → Timer → Counted
counted k t =
    cond t.en
    (stands t.counter t.reload (fallen t) (λ q i. cond t.rs (restarted t q i) (stopped t)) k)
    (idle t)

-- the pulses of a timer that underflows so often
abbrev pub underflow_pulses : Timer → ℕ → ℕ
underflow_pulses t underflows = cond t.ie underflows 0

-- how often a timer counts in some ticks, `before` being how often timer n-1 underflowed in them
abbrev pub counts_in : ℕ → ℕ → Timer → ℕ
counts_in ticks before t = cond t.ch before ticks

-- what the code answers for some counts, and for some ticks
abbrev pub counted_timer : ℕ → Timer → Served
counted_timer k t =
    record {
      underflows = (counted k t).underflows;
      pulses = underflow_pulses t (counted k t).underflows;
      timer = (counted k t).timer;
    }

abbrev pub served_timer : ℕ → ℕ → Timer → Served
served_timer ticks before t = counted_timer (counts_in ticks before t) t

abbrev pub served : ℕ → ℕ → List Timer → List Timer
served ticks before [] = []
served ticks before (t ∷ ts) =
    (counted (counts_in ticks before t) t).timer ∷ served ticks (counted (counts_in ticks before t) t).underflows ts

abbrev pub served_pulses : ℕ → ℕ → List Timer → List ℕ
served_pulses ticks before [] = []
served_pulses ticks before (t ∷ ts) =
    underflow_pulses t (counted (counts_in ticks before t) t).underflows ∷
    served_pulses ticks (counted (counts_in ticks before t) t).underflows ts

-- the prescaler in n cycles
abbrev pub ticks_in : ℕ → Gptimer → ℕ
ticks_in n u = ends u.scaler u.sreload n

abbrev pub scaler_after : ℕ → Gptimer → ℕ
scaler_after n u = value u.scaler u.sreload n

abbrev pub ticked : ℕ → ℕ → Gptimer → Elapsed
ticked cycles ticks u =
    record {
      cycles = cycles;
      pulses = served_pulses ticks ticks u.timers;
      unit = with_timers (served ticks ticks u.timers) u;
    }

unfoldable pub elapsed : ℕ → Gptimer → Elapsed
elapsed n u = ticked n (ticks_in n u) (with_scaler (scaler_after n u) u)

-- the count at which a timer underflows for the j-th time
unfoldable pub due : ℕ → Timer → ℕ
due j t = cond t.en (cond t.rs (ends_at t.counter t.reload j) (once_at t.counter j)) never

-- the tick at which timer n underflows for the j-th time: where it is chained its counts are underflows of timer n-1, and
-- before timer 1 stands the tick itself
unfoldable pub due_tick : List Timer → ℕ → ℕ → ℕ
due_tick ts zero j = j
due_tick ts (suc n) j = cond (place ts n).ch (due_tick ts n (due j (place ts n))) (due j (place ts n))

-- the tick of the first pulse of the timer at place n, and of the first one of all
abbrev pub pulse_tick : List Timer → ℕ → ℕ
pulse_tick ts n = cond (place ts n).ie (due_tick ts (n + 1) 1) never

abbrev pub first_tick : List Timer → ℕ
first_tick ts = min (min (pulse_tick ts 0) (pulse_tick ts 1)) (min (pulse_tick ts 2) (pulse_tick ts 3))

-- the cycle of the j-th tick
abbrev pub tick_cycle : Gptimer → ℕ → ℕ
tick_cycle u j = ends_at u.scaler u.sreload j
