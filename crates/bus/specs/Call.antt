-- Each call on a machine: paper 01, "Refusal numbers" with its order, and "The slow run"; paper 02, No. 4, adds the acknowledge, and
-- No. 5 number 13. The code's enum of calls says no more than the papers do, so the definitions are on that enum: "An access has a
-- 32-bit address and a size in bytes." "Script records are such calls, a malformed one a refused call".
use Rattle.std.specs.Prelude.{ℕ, ◌+◌, ◌-◌, ◌%◌, Bool, false, true, cond, not, ◌||◌, List, [], ◌∷◌, length, ◌==◌, nat_lt, nat_le, Option, Some, None}
use Rattle.devices.specs.Word.{bit}
use Rattle.devices.specs.Refusal.{not_refused, receiver_off, queue_full, ill_formed, no_register}
use Rattle.devices.specs.Apbuart as uart
use Rattle.devices.specs.Gptimer as gpt
use Rattle.devices.specs.Irqmp as irq
use Rattle.bus.specs.Refusal.{bad_size, no_window, past_window, misaligned, not_a_word, no_port, bad_record}
use Rattle.bus.specs.Board as board
use Rattle.bus.specs.Machine.{Machine, Answer, well_formed, reset_state, port_at}
use Rattle.bus.specs.Machine.{refused, accepted, of_port, of_timer_unit, of_controller}
use Rattle.bus.specs.Time as time
use Rattle.bus.specs.Time.{stepped, of_span}
use Rattle.bus.specs.declared.board.Window.{Window}
use Rattle.bus.specs.declared.board.Device.{Device}
use Rattle.bus.specs.declared.board.Device.TheVariants as device
use Rattle.bus.specs.declared.machine.Call.{Call}
use Rattle.bus.specs.declared.machine.Call.TheVariants.{Read, Write, Offer, Advance, Skip, Reset, Acknowledge, Malformed}

-- "No. | Given exactly when"
infix 70 ◌when◌
pub record Rule : Type 0 where
  pub number : ℕ
  pub given : Bool

abbrev pub ◌when◌ : ℕ → Bool → Rule
number when given = record { number = number; given = given }

-- the first number that is given; "0 | not refused"
abbrev pub first : List Rule → ℕ
first [] = not_refused
first (r ∷ rs) = cond r.given r.number (first rs)

-- "1, 2 or 4"
abbrev pub is_size : ℕ → Bool
is_size size = size == 1 || size == 2 || size == 4

-- "the address lies in no window"; `found` is the window that it lies in, if there is one
abbrev pub nowhere : Option Window → Bool
nowhere (Some w) = false
nowhere None = true

-- "the access runs past its window's end"
abbrev pub runs_past : ℕ → ℕ → Option Window → Bool
runs_past address size (Some w) = nat_lt (board.end w) (address + size)
runs_past address size None = false

-- 02, No. 5: "an offset without a register": each device lists those that have one.
abbrev pub has_register : Device → ℕ → Bool
has_register (device.Port n) offset = uart.has_register offset
has_register device.TimerUnit offset = gpt.has_register offset
has_register device.Controller offset = irq.has_register offset

abbrev pub lacks_register : ℕ → Option Window → Bool
lacks_register address (Some w) = not (has_register w.device (address - w.base))
lacks_register address None = false

-- What of a call the table's conditions are about. On any other call than an access, a byte and a malformed record only 9
-- can be given.
pub data Subject : Type 0 where
  access : (address size : ℕ) (found : Option Window) → Subject
  byte_for : (n : ℕ) → Subject
  unreadable : Subject
  other : Subject

-- "1 to 5 in that order for an access, 6 to 8 in that order for a byte". 02, No. 5: "Word accesses to an offset without a register
-- get number 13, a bus error, checked after 5."
abbrev pub rules : Subject → Machine → List Rule
rules (access address size found) m =
    bad_size when not (is_size size) ∷
    no_window when nowhere found ∷
    past_window when runs_past address size found ∷
    misaligned when not (address % size == 0) ∷
    not_a_word when (size == 1 || size == 2) ∷
    no_register when lacks_register address found ∷
    []
rules (byte_for n) m =
    no_port when nat_le m.board.ports n ∷
    receiver_off when not (bit uart.RE (port_at n m).control) ∷
    queue_full when nat_le uart.depth (length (port_at n m).queue) ∷
    []
rules unreadable m = bad_record when true ∷ []
rules other m = []

-- "Order (house): 9 first; then 10". "Every call on a machine is subject to 9, reset too."
abbrev pub table : Subject → Machine → List Rule
table s m = ill_formed when not (well_formed m) ∷ rules s m

unfoldable pub refusal : Subject → Machine → ℕ
refusal s m = first (table s m)

abbrev pub window_of : ℕ → Machine → Option Window
window_of address m = board.window_at address m.board.windows

abbrev pub subject : Call → Machine → Subject
subject (Read address size) m = access address size (window_of address m)
subject (Write address size value) m = access address size (window_of address m)
subject (Offer n byte) m = byte_for n
subject (Advance cycles) m = other
subject (Skip limit) m = other
subject Reset m = other
subject Acknowledge m = other
subject Malformed m = unreadable

-- A device answers an access as its own definitions say.
abbrev pub read_device : Machine → Device → ℕ → Answer
read_device m (device.Port n) offset = of_port n (uart.read offset (port_at n m)) m
read_device m device.TimerUnit offset = of_timer_unit (gpt.read offset m.unit) m
read_device m device.Controller offset = of_controller (irq.read offset m.irqmp) m

abbrev pub write_device : ℕ → Machine → Device → ℕ → Answer
write_device value m (device.Port n) offset = of_port n (uart.write offset value (port_at n m)) m
write_device value m device.TimerUnit offset = of_timer_unit (gpt.write offset value m.unit) m
write_device value m device.Controller offset = of_controller (irq.write offset value m.irqmp) m

-- An access reaches the device whose window its address lies in, at the offset from the window's base. One that lies in no
-- window is refused, so what stands for it here is never asked for.
abbrev pub reach : (Device → ℕ → Answer) → Machine → ℕ → Option Window → Answer
reach reply m address (Some w) = reply w.device (address - w.base)
reach reply m address None = accepted 0 m

-- "An access, an offered byte and a reset do what the sections above say. An advance does one cycle as often as its span
-- says. A skip does one cycle after another while none had a pulse of any timer and the limit isn't reached." An access and a
-- byte are steps (Time.antt). 02: "A new script kind 7 acknowledges". A malformed record is always refused.
abbrev pub execute : Call → Machine → Answer
execute (Read address size) m = stepped m (reach (read_device m) m address (window_of address m))
execute (Write address size value) m = stepped m (reach (write_device value m) m address (window_of address m))
execute (Offer n byte) m = stepped m (of_port n (uart.offer byte (port_at n m)) m)
execute (Advance cycles) m = of_span (time.advance cycles m)
execute (Skip limit) m = of_span (time.skip limit m)
execute Reset m = accepted 0 (reset_state m.board)
execute Acknowledge m = of_controller (irq.acknowledge m.irqmp) m
execute Malformed m = accepted 0 m

-- "A call refused by the table gets the refusal's answer and changes nothing."
abbrev pub unless_refused : ℕ → Answer → Machine → Answer
unless_refused number a m = cond (number == not_refused) a (refused number m)

unfoldable pub answer : Call → Machine → Answer
answer call m = unless_refused (refusal (subject call m) m) (execute call m) m
