-- What callers may take from the contract of a run. Assumes nothing.
use Rattle.std.specs.Prelude.{ℕ, ◌*◌, ◌≤◌, ◌≡◌, cond, List, length, take}
use Rattle.std.proofs.Math.Path.{refl}
use Rattle.std.proofs.Common.{take_at}
use Rattle.devices.proofs.Laws.Cases.{tested}
use Rattle.bus.specs.Machine.{well_formed}
use Rattle.bus.specs.SlowRun.{answers, after}
use Rattle.bus.specs.View.{machine_of}
use Rattle.bus.specs.declared.machine.Machine.{Machine}
use Rattle.script.specs.Buffer.{wrote}
use Rattle.script.specs.Script.{calls}
use Rattle.script.specs.Log.{entry_length, entries}
use Rattle.script.specs.Run.{run_first, with_tail, piece}
use Rattle.script.proofs.Laws.Run.{written_length, done_fits}
use Rattle.script.specs.View.{Conforms}
use Rattle.script.specs.declared.run.Ran.{Ran}

module _ (script log : List ℕ) {m : Machine} {r : Ran} {bytes : List ℕ} where
  -- A run that has n records to do does them on a well-formed machine, and none on another. What it writes, and the machine that
  -- it leaves, are the slow run's for the records that it does.
  pub run_did :
      (n : ℕ) → Conforms m (run_first n script log) r bytes →
      (r.done ≡ cond (well_formed (machine_of m)) n 0) ×
      (take (entry_length * r.done) bytes ≡ entries (answers (calls r.done script) (machine_of m))) ×
      (machine_of r.machine ≡ after (calls r.done script) (machine_of m))
  unfolding wrote
  run_did n c =
      tested (well_formed (machine_of m))
      (λ w.
      let done = rw w at c.done in (
        rw w done,
        rw (done, rw w at c.log)
            (take_at (entries (answers (calls n script) (machine_of m))) _ (entry_length * n) (written_length n script (machine_of m))),
        rw done (rw w at c.machine),
      ))
      (λ ill. let none = rw ill at c.done in (rw ill none, rw none refl, rw none (rw ill at c.machine)))

  -- The log has room for the records that were done.
  pub piece_room : Conforms m (piece script log) r bytes → entry_length * r.done ≤ length log
  unfolding piece
  piece_room c = done_fits (with_tail script) script log (machine_of m) r.done c.done
