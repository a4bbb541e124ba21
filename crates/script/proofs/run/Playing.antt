-- The loop over the records: the machine and the log so far are the slow run's. Assumes nothing.
use Prim.Native.Nat.{ℕ, ◌+◌, ◌*◌, ◌≤◌, ◌<◌}
use mathlib.Core.Path.{◌≡◌, refl, sym, ap, ◌∙◌}
use mathlib.Core.List.{List, [], ◌∷◌, ◌++◌, append-nil}
use native.Mathlib.Omega.{arith}
use native.Mathlib.Nat.{zero-add}
use lib.ListN.{length, take, drop}
use Rattle.bus.specs.Machine as bus
use Rattle.bus.specs.Call.{answer}
use Rattle.bus.specs.SlowRun.{answers}
use Rattle.bus.proofs.Laws.SlowRun.{answers_append, after_append}
use Rattle.bus.specs.Route.{replied}
use Rattle.bus.specs.View.{machine_of, Replies}
use Rattle.bus.specs.declared.machine.Machine.{Machine}
use Rattle.bus.specs.declared.reply.Reply.{Reply}
use Rattle.bus.specs.declared.machine.Call.{Call}
use Rattle.script.specs.Buffer.{wrote}
use Rattle.script.specs.Script as scripts
use Rattle.script.specs.Script.{call_in, calls}
use Rattle.script.proofs.Laws.Script.{calls_add}
use Rattle.script.specs.Log as logs
use Rattle.script.specs.Log.{entry, entries}
use Rattle.script.proofs.Laws.Log.{entries_append}
use Rattle.script.specs.Run.{ran}
use Rattle.script.proofs.Laws.Run.{written_length}
use Rattle.script.specs.Private.{Played}
use Rattle.script.proofs.Laws.Buffer.{wrote_join, none_written}

-- None of the records, one more, and all.
pub none_played : (script log : List ℕ) (m : Machine) → Played (ran 0 script log (machine_of m)) m log
none_played script log m = record { log = none_written log 0; machine = refl }

pub one_more :
    (script log₀ : List ℕ) (m₀ : bus.Machine) (i count : ℕ) (m next : Machine) (log bytes : List ℕ) (call : Call) (reply : Reply) →
    Played (ran i script log₀ m₀) m log →
    call ≡ call_in (take scripts.record_length (drop (scripts.record_length * i) script)) → i < count →
    logs.entry_length * count ≤ length log₀ → bytes ≡ wrote log (logs.entry_length * i) (entry (replied reply (machine_of next))) →
    Replies m call reply next → Played (ran (i + 1) script log₀ m₀) next bytes
one_more script log₀ m₀ i count m next log bytes call reply so_far read within fits put says =
    let c = call_in (take scripts.record_length (drop (scripts.record_length * i) script)) in
    let a = replied reply (machine_of next) in
    let answered : answer c (machine_of m) ≡ a = rw (← read) (sym says.answer) in
    let before = entries (answers (calls i script) m₀) in
    let more : entries (answers (calls (i + 1) script) m₀) ≡ before ++ entry a =
    rw (
      calls_add i 1 script,
      answers_append (calls i script) (c ∷ []) m₀,
      ← so_far.machine,
      answered,
      entries_append (answers (calls i script) m₀) (a ∷ []),
      append-nil (entry a),
    ) refl in
    record {
      log =
          put ∙
          rw (so_far.log, more, ← zero-add (logs.entry_length * i))
          (wrote_join log₀ before (entry a) 0 (logs.entry_length * i) (written_length i script m₀)
          (rw zero-add (omega arith)));
      machine =
          sym (ap (λ (x : bus.Answer). x.machine) answered) ∙
          rw (calls_add i 1 script, after_append (calls i script) (c ∷ []) m₀, ← so_far.machine) refl;
    }
