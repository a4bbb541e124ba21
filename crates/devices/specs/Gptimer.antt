-- The timer unit (GPTIMER): paper 01, section "Timer unit", with what "Refusal numbers" says of a device's own call and "The slow
-- run" of advances and skips, and paper 02: No. 3 replaces what 01 says a count does to the counter and to EN, and a tick to the
-- prescaler where the reload is 0; No. 5, what it says of an offset without a register. One definition a rule, under the
-- sentence that it states; those that others use stand before them. Every field of the code's structs is a register or a bit
-- of one, so the definitions are on those structs. No call of the unit gets 9: "A case that the chosen types exclude needs no
-- test", and the code's types exclude each ill-formed state.
pub mod Span
pub mod Direct
use Rattle.std.specs.Prelude.{ℕ, zero, suc, ◌+◌, ◌-◌, ◌/◌, ◌%◌, ◌^◌, Bool, true, false, cond, not, ◌&&◌, ◌||◌, List, [], ◌∷◌, map, set, ◌==◌, nat_le, nat_lt, slice_index_or, slice_set}
use Rattle.devices.specs.Word.{bit}
use Rattle.devices.specs.Register.{one_of}
use Rattle.devices.specs.Refusal.{no_register}
use Rattle.devices.specs.Answer.{Answer, refused, accepted}
use Rattle.devices.specs.declared.gptimer.Timer.{Timer}
use Rattle.devices.specs.declared.gptimer.Gptimer.{Gptimer}
use Rattle.devices.specs.declared.gptimer.Elapsed.{Elapsed}

-- A unit, and a timer, with one field changed.
abbrev pub with_scaler : ℕ → Gptimer → Gptimer
with_scaler value u = record { scaler = value; sreload = u.sreload; df = u.df; timers = u.timers }

abbrev pub with_sreload : ℕ → Gptimer → Gptimer
with_sreload value u = record { scaler = u.scaler; sreload = value; df = u.df; timers = u.timers }

abbrev pub with_df : Bool → Gptimer → Gptimer
with_df flag u = record { scaler = u.scaler; sreload = u.sreload; df = flag; timers = u.timers }

abbrev pub with_timers : List Timer → Gptimer → Gptimer
with_timers ts u = record { scaler = u.scaler; sreload = u.sreload; df = u.df; timers = ts }

abbrev pub with_counter : ℕ → Timer → Timer
with_counter value t =
    record { counter = value; reload = t.reload; en = t.en; rs = t.rs; ie = t.ie; ip = t.ip; ch = t.ch }

abbrev pub with_reload : ℕ → Timer → Timer
with_reload value t =
    record { counter = t.counter; reload = value; en = t.en; rs = t.rs; ie = t.ie; ip = t.ip; ch = t.ch }

abbrev pub with_en : Bool → Timer → Timer
with_en flag t =
    record { counter = t.counter; reload = t.reload; en = flag; rs = t.rs; ie = t.ie; ip = t.ip; ch = t.ch }

abbrev pub with_ip : Bool → Timer → Timer
with_ip flag t =
    record { counter = t.counter; reload = t.reload; en = t.en; rs = t.rs; ie = t.ie; ip = flag; ch = t.ch }

-- "0x00 prescaler value, 0x04 prescaler reload: a write stores the low 16 bits."
abbrev pub SCALER : ℕ
SCALER = 0x00

abbrev pub SRELOAD : ℕ
SRELOAD = 0x04

abbrev pub write_scaler : ℕ → Gptimer → Gptimer
write_scaler value u = with_scaler (value % 2 ^ 16) u

abbrev pub write_sreload : ℕ → Gptimer → Gptimer
write_sreload value u = with_sreload (value % 2 ^ 16) u

-- "0x08 CONFIG: 0x144, plus 0x200 if DF is set; only DF (bit 9) is stored."
abbrev pub CONFIG : ℕ
CONFIG = 0x08

abbrev pub DF : ℕ
DF = 9

abbrev pub read_config : Gptimer → ℕ
read_config u = 0x144 + cond u.df 0x200 0

abbrev pub write_config : ℕ → Gptimer → Gptimer
write_config value u = with_df (bit DF value) u

-- "Control bits: EN 0, RS 1, LD 2, IE 3, IP 4, CH 5."
abbrev pub EN : ℕ
EN = 0

abbrev pub RS : ℕ
RS = 1

abbrev pub LD : ℕ
LD = 2

abbrev pub IE : ℕ
IE = 3

abbrev pub IP : ℕ
IP = 4

abbrev pub CH : ℕ
CH = 5

-- "A write stores EN, RS, IE, CH. A 1 in bit 4 clears IP, a 0 keeps it. A 1 in bit 2 copies reload to counter."
abbrev pub write_control : ℕ → Timer → Timer
write_control value t =
    record {
      counter = cond (bit LD value) t.reload t.counter;
      reload = t.reload;
      en = bit EN value;
      rs = bit RS value;
      ie = bit IE value;
      ip = cond (bit IP value) false t.ip;
      ch = bit CH value;
    }

-- "LD reads 0, all bits above 5 read 0."
abbrev pub read_control : Timer → ℕ
read_control t =
    cond t.en (2 ^ EN) 0 + cond t.rs (2 ^ RS) 0 + cond t.ie (2 ^ IE) 0 + cond t.ip (2 ^ IP) 0 +
    cond t.ch (2 ^ CH) 0

-- "Timer n (1 to 4) at 0x10·n: counter, +4 reload, +8 control. Counter and reload store all 32 bits." They read what is
-- stored ("R/W" in 001), as the prescaler's registers do.
abbrev pub COUNTER : ℕ
COUNTER = 0x0

abbrev pub RELOAD : ℕ
RELOAD = 0x4

abbrev pub CONTROL : ℕ
CONTROL = 0x8

abbrev pub STRIDE : ℕ
STRIDE = 0x10

abbrev pub is_timer : ℕ → Bool
is_timer n = nat_le 1 n && nat_le n 4

-- timer n stands at place n - 1; a place that is not there has a timer that is all 0, and no rule asks for it
abbrev pub zero_timer : Timer
zero_timer = record { counter = 0; reload = 0; en = false; rs = false; ie = false; ip = false; ch = false }

abbrev pub place : List Timer → ℕ → Timer
place ts i = slice_index_or ts i zero_timer

abbrev pub timer : ℕ → Gptimer → Timer
timer n u = place u.timers (n - 1)

abbrev pub with_timer : ℕ → Timer → Gptimer → Gptimer
with_timer n t u = with_timers (slice_set u.timers (n - 1) t) u

-- The offsets with a register: the unit's own, and, from 0x10·n on, those of timer n.
abbrev pub registers : List ℕ
registers = SCALER ∷ SRELOAD ∷ CONFIG ∷ []

abbrev pub timer_registers : List ℕ
timer_registers = COUNTER ∷ RELOAD ∷ CONTROL ∷ []

abbrev pub has_register : ℕ → Bool
has_register offset =
    one_of registers offset || (is_timer (offset / STRIDE) && one_of timer_registers (offset % STRIDE))

-- 02, No. 5: "Word accesses to an offset without a register get number 13", "+0x0C of the timer blocks included"; and a device's
-- own call, 01 says, "answers an offset that is no register's, odd ones included, as a word offset without a register is
-- answered." Of timer n, by the offset from 0x10·n:
abbrev pub read_timer : ℕ → ℕ → Gptimer → Answer Gptimer
read_timer n offset u =
    cond (offset == COUNTER) (accepted (timer n u).counter u)
    (cond (offset == RELOAD) (accepted (timer n u).reload u)
    (cond (offset == CONTROL) (accepted (read_control (timer n u)) u)
    (refused no_register u)))

abbrev pub write_timer : ℕ → ℕ → ℕ → Gptimer → Answer Gptimer
write_timer n offset value u =
    cond (offset == COUNTER) (accepted 0 (with_timer n (with_counter value (timer n u)) u))
    (cond (offset == RELOAD) (accepted 0 (with_timer n (with_reload value (timer n u)) u))
    (cond (offset == CONTROL) (accepted 0 (with_timer n (write_control value (timer n u)) u))
    (refused no_register u)))

-- Of the unit:
unfoldable pub read : ℕ → Gptimer → Answer Gptimer
read offset u =
    cond (offset == SCALER) (accepted u.scaler u)
    (cond (offset == SRELOAD) (accepted u.sreload u)
    (cond (offset == CONFIG) (accepted (read_config u) u)
    (cond (is_timer (offset / STRIDE)) (read_timer (offset / STRIDE) (offset % STRIDE) u)
    (refused no_register u))))

unfoldable pub write : ℕ → ℕ → Gptimer → Answer Gptimer
write offset value u =
    cond (offset == SCALER) (accepted 0 (write_scaler value u))
    (cond (offset == SRELOAD) (accepted 0 (write_sreload value u))
    (cond (offset == CONFIG) (accepted 0 (write_config value u))
    (cond (is_timer (offset / STRIDE)) (write_timer (offset / STRIDE) (offset % STRIDE) value u)
    (refused no_register u))))

-- Counting, paper 02, No. 3: "From now on a counting timer at 0 underflows;"
unfoldable pub count_underflows : Timer → Bool
count_underflows t = t.counter == 0

-- "with RS it takes the reload, without it the counter stays at 0xFFFFFFFF and EN is cleared." At an underflow, 01 says,
-- "IP is set".
abbrev pub underflow : Timer → Timer
underflow t = with_ip true (cond t.rs (with_counter t.reload t) (with_en false (with_counter 0xFFFFFFFF t)))

-- "A counter above 0 only falls", in 01's words "by 1".
unfoldable pub count : Timer → Timer
count t = cond (count_underflows t) (underflow t) (with_counter (t.counter - 1) t)

-- "An enabled timer counts if CH is 0, or if timer n-1 underflowed in this same tick." Whether timer n-1 did is `before`.
abbrev pub counts_now : Bool → Timer → Bool
counts_now before t = t.en && (not t.ch || before)

abbrev pub underflows_now : Bool → Timer → Bool
underflows_now before t = counts_now before t && count_underflows t

-- "One tick serves timers 1 to 4 in order."
abbrev pub serve : Bool → List Timer → List Timer
serve before [] = []
serve before (t ∷ ts) = cond (counts_now before t) (count t) t ∷ serve (underflows_now before t) ts

-- "with IE there is one pulse, whether or not IP was set already."
abbrev pub serve_pulses : Bool → List Timer → List ℕ
serve_pulses before [] = []
serve_pulses before (t ∷ ts) =
    cond (underflows_now before t && t.ie) 1 0 ∷ serve_pulses (underflows_now before t) ts

-- "Timer 1 ignores CH (house)": it is served as if a timer before it had underflowed.
abbrev pub tick : List Timer → List Timer
tick ts = serve true ts

abbrev pub tick_pulses : List Timer → List ℕ
tick_pulses ts = serve_pulses true ts

abbrev pub no_pulses : List Timer → List ℕ
no_pulses ts = map (λ (t : Timer). 0) ts

-- "One cycle: if the prescaler value is 0 there is a tick", and, 02, No. 3: "A tick now sets the prescaler value to the reload
-- even where that is 0, and then each cycle ticks." "Otherwise it falls by 1."
unfoldable pub cycle : Gptimer → Gptimer
cycle u =
    cond (u.scaler == 0)
    (with_scaler u.sreload (with_timers (tick u.timers) u))
    (with_scaler (u.scaler - 1) u)

unfoldable pub cycle_pulses : Gptimer → List ℕ
cycle_pulses u = cond (u.scaler == 0) (tick_pulses u.timers) (no_pulses u.timers)

-- "Reset: prescaler both 0xFFFF; DF 0; timers 1 to 3 all 0; timer 4 control 0x09, counter and reload 0xFFFF."
abbrev pub reset_timer_4 : Timer
reset_timer_4 =
    record { counter = 0xFFFF; reload = 0xFFFF; en = true; rs = false; ie = true; ip = false; ch = false }

abbrev pub reset_state : Gptimer
reset_state =
    record {
      scaler = 0xFFFF;
      sreload = 0xFFFF;
      df = false;
      timers = zero_timer ∷ zero_timer ∷ zero_timer ∷ reset_timer_4 ∷ [];
    }

-- "For both, the cycles passed are those done, and each timer's pulse count is how many of them had its pulse."
abbrev pub add_pulses : List ℕ → List ℕ → List ℕ
add_pulses [] ys = ys
add_pulses (x ∷ xs) [] = x ∷ xs
add_pulses (x ∷ xs) (y ∷ ys) = (x + y) ∷ add_pulses xs ys

abbrev pub no_cycle : Gptimer → Elapsed
no_cycle u = record { cycles = 0; pulses = no_pulses u.timers; unit = u }

abbrev pub cycle_then : Gptimer → Elapsed → Elapsed
cycle_then u rest =
    record { cycles = suc rest.cycles; pulses = add_pulses (cycle_pulses u) rest.pulses; unit = rest.unit }

-- "An advance does one cycle as often as its span says."
unfoldable pub advance : ℕ → Gptimer → Elapsed
advance zero u = no_cycle u
advance (suc n) u = cycle_then u (advance n (cycle u))

-- "A skip does one cycle after another while none had a pulse of any timer and the limit isn't reached." "Limit 0 passes
-- 0."
abbrev pub any_pulse : List ℕ → Bool
any_pulse [] = false
any_pulse (x ∷ xs) = nat_lt 0 x || any_pulse xs

unfoldable pub skip : ℕ → Gptimer → Elapsed
skip zero u = no_cycle u
skip (suc n) u = cycle_then u (cond (any_pulse (cycle_pulses u)) (no_cycle (cycle u)) (skip n (cycle u)))
