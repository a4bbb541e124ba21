-- A route is the one device's call, or the refusal, that a machine's call becomes on a board: the code's enum. What a call
-- answers is defined without routes (Call.antt); `Leads` says which routes a call may take.
use Rattle.std.specs.Prelude.{ℕ, ◌≡◌, Bool, false, true, List, is_some, unwrap_or, nat_lt}
use Rattle.devices.specs.declared.irqmp.Irqmp.{Irqmp}
use Rattle.devices.specs.declared.gptimer.Gptimer.{Gptimer}
use Rattle.devices.specs.Refusal.{not_refused}
use Rattle.devices.specs.Apbuart as uart
use Rattle.devices.specs.Apbuart.Call.{answer_to}
use Rattle.devices.specs.Gptimer as gpt
use Rattle.devices.specs.Irqmp as irq
use Rattle.devices.specs.Answer as devices
use Rattle.devices.specs.declared.gptimer.Span as gptimer
use Rattle.devices.specs.declared.gptimer.Span.TheVariants.{Cycles, ToPulse}
use Rattle.bus.specs.Refusal.{number_of}
use Rattle.bus.specs.Board.{all_there}
use Rattle.bus.specs.Machine.{Machine, Answer, well_formed, reset_state, port_at, with_port, with_unit, with_irqmp}
use Rattle.bus.specs.Machine.{answered, no_pulses, refused, accepted}
use Rattle.bus.specs.Time as time
use Rattle.bus.specs.Time.{Passed, step, of_span}
use Rattle.bus.specs.Call.{answer}
use Rattle.bus.specs.declared.board.Board.{Board}
use Rattle.bus.specs.declared.machine.Call.{Call}
use Rattle.bus.specs.declared.reply.Reply.{Reply}
use Rattle.bus.specs.declared.route.Route.{Route}
use Rattle.bus.specs.declared.route.Route.TheVariants.{Refused, Port, Read, Write, Acknowledge, Pass, Reset}
use Rattle.bus.specs.declared.route.Core.{Core}
use Rattle.bus.specs.declared.route.Core.TheVariants.{TimerUnit, Controller}

-- The answer of a call that leaves the machine `after`: of the code's reply,
abbrev pub replied : Reply → Machine → Answer
replied r after = answered r.refusal (is_some r.emitted) (unwrap_or r.emitted 0) r.value r.cycles r.pulses after

-- of what a port answered, with the port's own refusal number,
abbrev pub port_answer : uart.Answer → Machine → Answer
port_answer a after = answered a.refusal a.emitted a.byte a.value 0 no_pulses after

-- of a number and a value, those of the timer unit or the controller, or of a reset,
abbrev pub value_answer : (refusal value : ℕ) → Machine → Answer
value_answer refusal value after = answered refusal false 0 value 0 no_pulses after

-- and of a span of time.
abbrev pub span_answer : (cycles : ℕ) (pulses : List ℕ) → Machine → Answer
span_answer cycles pulses after = answered not_refused false 0 0 cycles pulses after

-- Port n answers its own call and is stored, which is a step.
abbrev pub port_called : ℕ → uart.Answer → Machine → Answer
port_called n a m = port_answer a (step no_pulses m (with_port n a.port m))

-- The timer unit, or the controller, answers its own call and is stored; no port changes, so that no level rises.
abbrev pub unit_called : devices.Answer Gptimer → Machine → Answer
unit_called a m = value_answer a.refusal a.value (with_unit a.device m)

abbrev pub controller_called : devices.Answer Irqmp → Machine → Answer
controller_called a m = value_answer a.refusal a.value (with_irqmp a.device m)

-- The timer unit or the controller answers an access.
abbrev pub core_read : Core → ℕ → Machine → Answer
core_read TimerUnit offset m = unit_called (gpt.read offset m.unit) m
core_read Controller offset m = controller_called (irq.read offset m.irqmp) m

abbrev pub core_written : Core → (offset value : ℕ) → Machine → Answer
core_written TimerUnit offset value m = unit_called (gpt.write offset value m.unit) m
core_written Controller offset value m = controller_called (irq.write offset value m.irqmp) m

-- The machine passes a span.
abbrev pub passes : gptimer.Span → Machine → Passed
passes (Cycles cycles) m = time.advance cycles m
passes (ToPulse limit) m = time.skip limit m

-- What a route answers on a machine.
unfoldable pub carried_out : Route → Machine → Answer
carried_out (Refused refusal) m = refused (number_of refusal) m
carried_out (Port n c) m = port_called n (answer_to c (port_at n m)) m
carried_out (Read offset core) m = core_read core offset m
carried_out (Write offset value core) m = core_written core offset value m
carried_out Acknowledge m = controller_called (irq.acknowledge m.irqmp) m
carried_out (Pass span) m = of_span (passes span m)
carried_out Reset m = accepted 0 (reset_state m.board)

-- A port that a route names is one of the first so many.
abbrev pub port_exists : ℕ → Route → Bool
port_exists ports (Refused refusal) = true
port_exists ports (Port n c) = nat_lt n ports
port_exists ports (Read offset core) = true
port_exists ports (Write offset value core) = true
port_exists ports Acknowledge = true
port_exists ports (Pass span) = true
port_exists ports Reset = true

-- The call may take this route on this board: on every well-formed machine of the board the call's answer is the route's. If
-- each port's window in the table is that of a port that the board has, so is a port that the route names.
pub record Leads (b : Board) (c : Call) (r : Route) : Type 0 where
  pub answers : (m : Machine) → m.board ≡ b → well_formed m ≡ true → answer c m ≡ carried_out r m
  pub port_is_there : all_there b.ports b.windows ≡ true → port_exists b.ports r ≡ true
