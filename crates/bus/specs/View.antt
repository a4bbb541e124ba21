-- What of the code's structs counts, and the contract of each call on a machine. What no definition decides in a port
-- (Apbuart/View.antt of the devices), a queue's `head` and its places that hold no waiting byte, none decides in a machine:
-- after an accepted call, and in what `Machine::reset_state` makes. What holds anyway: the view is decided, and on machines of
-- one view every call has the same answer.
use Rattle.std.specs.Prelude.{◌≡◌, map, is_some, unwrap_or}
use Rattle.devices.specs.Refusal.{not_refused}
use Rattle.devices.specs.Apbuart.View.{port_of}
use Rattle.bus.specs.Board.{gr712rc}
use Rattle.bus.specs.Machine as bus
use Rattle.bus.specs.Call as call
use Rattle.bus.specs.Route.{replied}
use Rattle.bus.specs.declared.machine.Machine.{Machine}
use Rattle.bus.specs.declared.machine.Answer.{Answer}
use Rattle.bus.specs.declared.machine.Call.{Call}
use Rattle.bus.specs.declared.reply.Reply.{Reply}

-- "The build is a model of one GR712RC board"
abbrev pub machine_of : Machine → bus.Machine
machine_of m = record { board = gr712rc; ports = map port_of m.ports; unit = m.unit; irqmp = m.irqmp }

abbrev pub answer_of : Answer → bus.Answer
answer_of a =
    record {
      refusal = a.refusal;
      emitted = is_some a.emitted;
      byte = unwrap_or a.emitted 0;
      levels = a.levels;
      value = a.value;
      cycles = a.cycles;
      pulses = a.pulses;
      machine = machine_of a.machine;
    }

-- The answer `a` is what a call on the machine `m` answers. "A refusal returns the same machine": where the call is refused
-- the machine comes back as `m`, in every field, and so does an ill-formed one, which "comes back alike in every field".
pub record Conforms (m : Machine) (c : Call) (a : Answer) : Type 0 where
  pub answer : answer_of a ≡ call.answer c (machine_of m)
  pub same : (a.refusal ≡ not_refused → ⊥) → a.machine ≡ m

-- The reply `r` and the machine `after` are what a call on the machine `before` answers; where the call is refused the machine is left
-- as it was, in every field.
pub record Replies (before : Machine) (c : Call) (r : Reply) (after : Machine) : Type 0 where
  pub answer : replied r (machine_of after) ≡ call.answer c (machine_of before)
  pub same : (r.refusal ≡ not_refused → ⊥) → after ≡ before
