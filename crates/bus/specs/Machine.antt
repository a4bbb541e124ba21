-- The machine, and what a call on it answers: paper 01, "Refusal numbers" and, for the fields of an answer, "Script and
-- log"; with the controller of paper 02, No. 4.
use Rattle.std.specs.Prelude.{ℕ, ◌+◌, ◌-◌, ◌*◌, Bool, false, true, cond, ◌&&◌, List, [], ◌∷◌, get_or, set}
use Rattle.devices.specs.Refusal.{not_refused}
use Rattle.devices.specs.Apbuart as uart
use Rattle.devices.specs.Apbuart.{Port}
use Rattle.devices.specs.Gptimer as gpt
use Rattle.devices.specs.Irqmp as irq
use Rattle.devices.specs.declared.gptimer.Gptimer.{Gptimer}
use Rattle.devices.specs.Answer as devices
use Rattle.devices.specs.declared.irqmp.Irqmp.{Irqmp}
use Rattle.bus.specs.declared.board.Board.{Board}

-- "Two machines are equal when their registers, queued bytes oldest first, and line levels are equal." Its board is part of a
-- machine: the bus goes by that board's windows and ports.
pub record Machine : Type 0 where
  pub board : Board
  pub ports : List Port
  pub unit : Gptimer
  pub irqmp : Irqmp

-- port n; where there is none, a port at reset, on which no answer depends
abbrev pub port_at : ℕ → Machine → Port
port_at n m = get_or m.ports n uart.reset_state

abbrev pub with_port : ℕ → Port → Machine → Machine
with_port n p m = record { board = m.board; ports = set m.ports n p; unit = m.unit; irqmp = m.irqmp }

abbrev pub with_unit : Gptimer → Machine → Machine
with_unit u m = record { board = m.board; ports = m.ports; unit = u; irqmp = m.irqmp }

abbrev pub with_irqmp : Irqmp → Machine → Machine
with_irqmp c m = record { board = m.board; ports = m.ports; unit = m.unit; irqmp = c }

-- "A state is ill formed exactly when a prescaler number exceeds 0xFFFF, a timer control has a bit outside 0x3B, a port's
-- SCALER exceeds 0xFF, a port's CONTROL lacks bit 31, or a receive queue claims more than 8 bytes. A case that the chosen
-- types exclude needs no test": a timer unit is never ill formed. 02, No. 4, says when a controller is.
unfoldable pub all_well : List Port → Bool
all_well [] = true
all_well (p ∷ ps) = uart.well_formed p && all_well ps

abbrev pub well_formed : Machine → Bool
well_formed m = all_well m.ports && irq.well_formed m.irqmp

-- "Each device has one reset state." "six APBUART serial ports, one GPTIMER unit", and the controller: every machine has as many.
abbrev pub reset_state : Board → Machine
reset_state b =
    record {
      board = b;
      ports =
          uart.reset_state ∷ uart.reset_state ∷ uart.reset_state ∷ uart.reset_state ∷ uart.reset_state ∷ uart.reset_state ∷ [];
      unit = gpt.reset_state;
      irqmp = irq.reset_state;
    }

-- What a call answers: "0 refusal number; 1 is 1 if a byte was emitted; 2 that byte, else 0; 3 the line levels after it,
-- bit p for port p; 4-7 value read; 8-15 cycles passed; 16-47 the four pulse counts, timer 1 first"; and the machine after
-- it.
pub record Answer : Type 0 where
  pub refusal : ℕ
  pub emitted : Bool
  pub byte : ℕ
  pub levels : ℕ
  pub value : ℕ
  pub cycles : ℕ
  pub pulses : List ℕ
  pub machine : Machine

-- the pulses of timer n: "the four pulse counts, timer 1 first"
abbrev pub pulses_of : ℕ → Answer → ℕ
pulses_of n a = get_or a.pulses (n - 1) 0

-- "3 the line levels after it, bit p for port p"
unfoldable pub levels_of : List Port → ℕ
levels_of [] = 0
levels_of (p ∷ ps) = cond p.level 1 0 + 2 * levels_of ps

abbrev pub levels : Machine → ℕ
levels m = levels_of m.ports

abbrev pub answered : (refusal : ℕ) (emitted : Bool) (byte value cycles : ℕ) (pulses : List ℕ) (after : Machine) → Answer
answered refusal emitted byte value cycles pulses after =
    record {
      refusal = refusal;
      emitted = emitted;
      byte = byte;
      levels = levels after;
      value = value;
      cycles = cycles;
      pulses = pulses;
      machine = after;
    }

abbrev pub no_pulses : List ℕ
no_pulses = 0 ∷ 0 ∷ 0 ∷ 0 ∷ []

-- "A refusal returns the same machine, value 0, no emitted byte, 0 cycles and four pulse counts of 0." "Levels are logged
-- for every record, refused, malformed or cut short too."
abbrev pub refused : ℕ → Machine → Answer
refused number m = answered number false 0 0 0 no_pulses m

-- "Anything else that a record's kind does not produce is 0, here and in the call's own answer." A call that
-- produces a value at most, a reset not even that:
abbrev pub accepted : ℕ → Machine → Answer
accepted value after = answered not_refused false 0 value 0 no_pulses after

-- an access or a byte that port n of the machine answered:
abbrev pub of_port : ℕ → uart.Answer → Machine → Answer
of_port n a m = answered not_refused a.emitted a.byte a.value 0 no_pulses (with_port n a.port m)

-- an access that its timer unit answered:
abbrev pub of_timer_unit : devices.Answer Gptimer → Machine → Answer
of_timer_unit a m = accepted a.value (with_unit a.device m)

-- and an access or an acknowledge that its controller answered:
abbrev pub of_controller : devices.Answer Irqmp → Machine → Answer
of_controller a m = accepted a.value (with_irqmp a.device m)
