-- A step of the machine, and time: paper 02, No. 4, and paper 01, "The slow run". A step is "one access, byte or cycle" (02, No. 10).
-- Time is single cycles of the machine.
use Rattle.std.specs.Prelude.{ℕ, zero, suc, Bool, false, cond, not, ◌&&◌, List, [], ◌∷◌, map, nat_lt}
use Rattle.std.specs.Int.Bits.{bit_or}
use Rattle.devices.specs.Refusal.{not_refused}
use Rattle.devices.specs.Apbuart.{Port}
use Rattle.devices.specs.Gptimer as gpt
use Rattle.devices.specs.Gptimer.{add_pulses, any_pulse}
use Rattle.devices.specs.Irqmp as irq
use Rattle.bus.specs.Machine.{Machine, with_unit, with_irqmp, no_pulses, Answer, answered}

-- the lines of those for which something is true, in one word
abbrev pub lines_of : (lines : List ℕ) (named : List Bool) → ℕ
lines_of [] named = 0
lines_of (line ∷ lines) [] = 0
lines_of (line ∷ lines) (b ∷ named) = bit_or (cond b line 0) (lines_of lines named)

-- "A pulse of timer n sets pending line 7+n": which timers pulsed
abbrev pub pulsed : List ℕ → List Bool
pulsed pulses = map (nat_lt 0) pulses

-- "a line level rising from 0 to 1 sets the port's line": which ports' levels rose
abbrev pub rises : (before after : Bool) → Bool
rises before after = not before && after

abbrev pub risen : (before after : List Port) → List Bool
risen [] qs = []
risen (p ∷ ps) [] = []
risen (p ∷ ps) (q ∷ qs) = rises p.level q.level ∷ risen ps qs

-- The lines that a step sets: one that has these pulses and goes from the ports of `before` to those of `after`. The board's
-- table has each timer's line and each port's.
abbrev pub lines_set : (pulses : List ℕ) (before after : Machine) → ℕ
lines_set pulses before after =
    bit_or (lines_of before.board.lines.timers (pulsed pulses))
    (lines_of before.board.lines.ports (risen before.ports after.ports))

-- The machine after a step: what pulsed or rose in it becomes pending.
abbrev pub step : (pulses : List ℕ) (before after : Machine) → Machine
step pulses before after = with_irqmp (irq.set_pending (lines_set pulses before after) after.irqmp).device after

-- An access and a byte are steps without a pulse.
abbrev pub stepped : Machine → Answer → Answer
stepped m a =
    answered a.refusal a.emitted a.byte a.value a.cycles a.pulses (step no_pulses m a.machine)

-- One cycle of the machine: each device does its own, and that is a step.
abbrev pub cycle_pulses : Machine → List ℕ
cycle_pulses m = gpt.cycle_pulses m.unit

unfoldable pub cycle : Machine → Machine
cycle m = step (cycle_pulses m) m (with_unit (gpt.cycle m.unit) m)

-- "For both, the cycles passed are those done, and each timer's pulse count is how many of them had its pulse."
pub record Passed : Type 0 where
  pub cycles : ℕ
  pub pulses : List ℕ
  pub machine : Machine

abbrev pub no_cycle : Machine → Passed
no_cycle m = record { cycles = 0; pulses = gpt.no_pulses m.unit.timers; machine = m }

abbrev pub cycle_then : Machine → Passed → Passed
cycle_then m rest =
    record { cycles = suc rest.cycles; pulses = add_pulses (cycle_pulses m) rest.pulses; machine = rest.machine }

-- "An advance does one cycle as often as its span says."
unfoldable pub advance : ℕ → Machine → Passed
advance zero m = no_cycle m
advance (suc n) m = cycle_then m (advance n (cycle m))

-- "A skip does one cycle after another while none had a pulse of any timer and the limit isn't reached." "Limit 0 passes 0."
unfoldable pub skip : ℕ → Machine → Passed
skip zero m = no_cycle m
skip (suc n) m = cycle_then m (cond (any_pulse (cycle_pulses m)) (no_cycle (cycle m)) (skip n (cycle m)))

-- What a span of time answers.
abbrev pub of_span : Passed → Answer
of_span p = answered not_refused false 0 0 p.cycles p.pulses p.machine
