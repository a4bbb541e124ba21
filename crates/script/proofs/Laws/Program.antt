-- What follows from the definition of what the program writes. Assumes nothing.
use Rattle.std.specs.Prelude.{ℕ, ◌%◌, ◌≡◌, refl, true, List, [], ◌∷◌, ◌++◌, length}
use Rattle.std.proofs.Common.{sym, ap, ◌∙◌, append-nil, add-zero, eq-eqb, ne_eqb}
use Rattle.std.proofs.Math.Decide.{ℕ_discrete}
use Rattle.devices.specs.Apbuart as uart
use Rattle.devices.specs.Irqmp as irq
use Rattle.bus.specs.Board.{gr712rc}
use Rattle.bus.specs.Refusal.{bad_record}
use Rattle.bus.specs.Machine as bus
use Rattle.bus.specs.Machine.{well_formed}
use Rattle.bus.specs.Call.{refusal, answer}
use Rattle.bus.specs.SlowRun.{answers, after}
use Rattle.bus.proofs.Laws.SlowRun.{answers_append, after_append, after_keeps}
use Rattle.bus.specs.declared.machine.Call.TheVariants.{Malformed}
use Rattle.script.specs.Script as scripts
use Rattle.script.specs.Script.{calls}
use Rattle.script.proofs.Laws.Script.{calls_add, tail_malformed}
use Rattle.script.specs.Log.{entry, entries}
use Rattle.script.proofs.Laws.Log.{entries_append}
use Rattle.script.specs.Run.{whole, with_tail}
use Rattle.script.specs.Program.{tail_log}

-- The machine that the program starts with.
pub reset_well : well_formed (bus.reset_state gr712rc) ≡ true
unfolding bus.all_well uart.well_formed irq.well_formed
reset_well = refl

-- A tail is answered with 10, on the machine that the records before it left.
malformed_well : (m : bus.Machine) → well_formed m ≡ true → answer Malformed m ≡ bus.refused bad_record m
unfolding answer refusal
malformed_well m w = rw w refl

pub tail_answered :
    (script : List ℕ) (m : bus.Machine) → well_formed m ≡ true →
    (let before = calls (whole script) script in
    (entries (answers (calls (with_tail script) script) m) ≡ entries (answers before m) ++ tail_log script (after before m)) ×
    (after (calls (with_tail script) script) m ≡ after before m))
tail_answered script m well =
    let before = calls (whole script) script in
    let kept : well_formed (after before m) ≡ true = after_keeps before m ∙ well in
    elim (ℕ_discrete (length script % scripts.record_length) 0) [
      | yes z ↦
          rw (eq-eqb (length script % scripts.record_length) 0 z, add-zero (whole script))
          (sym (append-nil (entries (answers before m))), refl)
      | no z ↦
          rw (
            ne_eqb (length script % scripts.record_length) 0 z,
            calls_add (whole script) 1 script,
            tail_malformed script,
            answers_append before (Malformed ∷ []) m,
            after_append before (Malformed ∷ []) m,
            malformed_well (after before m) kept,
            entries_append (answers before m) (bus.refused bad_record (after before m) ∷ []),
            append-nil (entry (bus.refused bad_record (after before m))),
          ) (refl, ap (λ (a : bus.Answer). a.machine) (malformed_well (after before m) kept))
    ]
