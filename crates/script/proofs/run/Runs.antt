-- A run, by the test for 9. Assumes nothing.
use Prim.Native.Nat.{ℕ}
use mathlib.Core.Path.{◌≡◌, sym, ◌∙◌}
use mathlib.Core.Bool.{Bool, true}
use mathlib.Core.List.{List}
use Rattle.devices.specs.Refusal.{not_refused}
use Rattle.bus.specs.Machine as bus
use Rattle.bus.proofs.Laws.SlowRun.{length_answers}
use Rattle.bus.specs.View.{machine_of}
use Rattle.bus.specs.declared.machine.Machine.{Machine}
use Rattle.script.specs.Script.{calls}
use Rattle.script.proofs.Laws.Script.{length_calls}
use Rattle.script.specs.Run as run
use Rattle.script.specs.View.{Conforms}
use Rattle.script.specs.Private.{Played}
use Rattle.script.specs.declared.run.Ran.{Ran}

-- By the test for 9: records that are done.
module _ (m : Machine) (b : Bool) (e : b ≡ bus.well_formed (machine_of m)) (script log bytes : List ℕ) (n : ℕ) (r : Ran) where
  pub records_done :
      b ≡ true → r.refusal ≡ not_refused → r.done ≡ n →
      Played (run.ran n script log (machine_of m)) r.machine bytes → Conforms m (run.run_first n script log) r bytes
  records_done t number done played =
      let w : bus.well_formed (machine_of m) ≡ true = sym e ∙ t in
      record {
        number = rw w number;
        done = rw w done;
        steps = done ∙ rw w (sym (length_answers (calls n script) (machine_of m) ∙ length_calls n script));
        log = rw w played.log;
        machine = rw w played.machine;
        same = λ refused. absurd (refused number);
      }
