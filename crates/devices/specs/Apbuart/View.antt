-- What of the code's structs counts, and the contract of each call on a port. What no definition decides, after an accepted
-- call and in what `Apbuart::reset_state` makes, are the queue's `head` and its places that hold no waiting byte. What holds
-- of them anyway: the waiting bytes stand from `head` on, oldest first; the view, and so that of every later answer, is the
-- same wherever that is; `head` counts modulo the depth, so that no value of it is ill formed; and a refused call leaves them
-- as they were (`same`).
use Rattle.std.specs.Prelude.{◌≡◌, ◌≢◌, Result, Ok, Err, None, is_some, unwrap_or}
use Rattle.devices.specs.Refusal.{not_refused}
use Rattle.devices.specs.Answer.View.{number_in}
use Rattle.devices.specs.Apbuart.{Port, Answer}
use Rattle.devices.specs.Fifo.{queued}
use Rattle.devices.specs.declared.apbuart.Apbuart.{Apbuart}
use Rattle.devices.specs.declared.apbuart.Done.{Done}
use Rattle.devices.specs.declared.answer.Answer as code
use Rattle.devices.specs.declared.refusal.Refusal.{Refusal}

abbrev pub port_of : Apbuart → Port
port_of u = record { control = u.control; scaler = u.scaler; queue = queued u.queue; level = u.level }

-- what a call gave: nothing where it was refused
abbrev pub done_in : Result Done Refusal → Done
done_in (Ok done) = done
done_in (Err refusal) = record { value = 0; emitted = None }

abbrev pub answer_of : code.Answer Apbuart Done → Answer
answer_of a =
    let done : Done = done_in a.outcome in
    record {
      refusal = number_in a.outcome;
      value = done.value;
      emitted = is_some done.emitted;
      byte = unwrap_or done.emitted 0;
      port = port_of a.device;
    }

-- The answer `a` of a call on the port `u` is the one that is defined. "A refusal returns the same machine": where it is
-- refused the port comes back as `u`, in every field, and so does an ill-formed one, which "comes back alike in every field".
pub record Conforms (u : Apbuart) (defined : Answer) (a : code.Answer Apbuart Done) : Type 0 where
  pub answer : answer_of a ≡ defined
  pub same : (number_in a.outcome ≢ not_refused) → a.device ≡ u
