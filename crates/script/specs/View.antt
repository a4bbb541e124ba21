-- What of the code's types counts, and the contract of each run. What no definition decides in a port (Apbuart/View.antt of
-- the devices), a queue's `head` and its places that hold no waiting byte, none decides in the machine that a run leaves unless
-- it is refused. What holds anyway: the view is decided, and from machines of one view every run writes the same log.
use Rattle.std.specs.Prelude.{ℕ, ◌≡◌, List, length}
use Rattle.devices.specs.Refusal.{not_refused}
use Rattle.bus.specs.Machine as bus
use Rattle.bus.specs.View.{machine_of}
use Rattle.bus.specs.declared.machine.Machine.{Machine}
use Rattle.script.specs.Run as run
use Rattle.script.specs.declared.run.Ran.{Ran}

-- The answer `r`, with the log's bytes at exit, is what a run on the machine `m` answers; `defined` is the run's
-- definition. Its number of records done is the definition's, and as many steps has the slow run. "A refusal returns the
-- same machine": where the whole run is refused, the machine comes back as `m`, in every field.
pub record Conforms (m : Machine) (defined : bus.Machine → run.Ran) (r : Ran) (bytes : List ℕ) : Type 0 where
  pub number : r.refusal ≡ (defined (machine_of m)).refusal
  pub done : r.done ≡ (defined (machine_of m)).done
  pub steps : r.done ≡ length (defined (machine_of m)).answers
  pub log : bytes ≡ (defined (machine_of m)).log
  pub machine : machine_of r.machine ≡ (defined (machine_of m)).machine
  pub same : (r.refusal ≡ not_refused → ⊥) → r.machine ≡ m
