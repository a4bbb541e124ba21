-- What follows from the words of the claims: a step is the slow run of its calls, and a chain of steps that of all of them.
-- Assumes nothing.
use Rattle.std.specs.Prelude.{ℕ, zero, suc, ◌*◌, min, ◌≡◌, refl, Bool, true, cond, length, take, drop}
use Rattle.std.proofs.Math.Path.{ap}
use Rattle.std.proofs.Common.{◌∙◌, arith}
use mathlib.Core.List.{List, [], ◌∷◌, ◌++◌, flat_map}
use Rattle.bus.specs.Machine as bus
use Rattle.bus.specs.Machine.{well_formed}
use Rattle.bus.specs.SlowRun.{answers, after}
use Rattle.bus.proofs.Laws.SlowRun.{answers_append, after_append, length_answers, after_keeps}
use Rattle.bus.specs.View.{machine_of}
use Rattle.bus.specs.declared.machine.Machine.{Machine}
use Rattle.bus.specs.declared.machine.Call.{Call}
use Rattle.script.specs.Script.{calls}
use Rattle.script.proofs.Laws.Script.{length_calls}
use Rattle.script.specs.Log.{entry_length, entries}
use Rattle.script.proofs.Laws.Log.{first_entry, entries_append}
use Rattle.script.specs.Run.{run_first, whole, fitting, run, with_tail, piece}
use Rattle.script.proofs.Laws.Run.{Counts, pieces_calls, whole_counts, tail_counts}
use Rattle.script.specs.Pieces.{Cut}
use Rattle.script.specs.Program.{tail_log}
use Rattle.script.proofs.Laws.Program.{tail_answered}
use Rattle.script.specs.View.{Conforms}
use Rattle.script.proofs.Laws.View.{run_did}
use Rattle.script.specs.Steps.{Chain, stop, next, Seen, Agree, none, answer, record_of, records, Step, log_of}
use Rattle.script.specs.Steps.{call, script_run, input_piece, RunWithRoom, PieceWithRoom, with_room}
use Rattle.script.specs.declared.run.Ran.{Ran}

-- What a step shows tells the answers to its calls. A step may go by whether the machine is well formed: no step changes that.
module _
    {A B : Type 0} (Does : Machine → A → List B → Machine → Type 0) (calls_of : A → List Call)
    (Tells : List B → List bus.Answer → Type 0) (well : Bool) (nothing : Tells [] [])
    (both :
    (xs ys : List B) (rs ss : List bus.Answer) → Tells xs rs → Tells ys ss → Tells (xs ++ ys) (rs ++ ss))
    (each :
    (m n : Machine) (given : A) (shown : List B) → well_formed (machine_of m) ≡ well → Does m given shown n →
    Tells shown (answers (calls_of given) (machine_of m)) × (machine_of n ≡ after (calls_of given) (machine_of m))) where
  pub chain_slow :
      {m end : Machine} {given : List A} {shown : List B} → well_formed (machine_of m) ≡ well → Chain Does m given shown end →
      Tells shown (answers (flat_map calls_of given) (machine_of m)) ×
      (machine_of end ≡ after (flat_map calls_of given) (machine_of m))
  unfolding flat_map
  chain_slow w stop = (nothing, refl)
  chain_slow {m} w (next {n} {given} {rest} {shown} step others) =
      let first = calls_of given in
      let one = each m n given shown w step in
      let kept : well_formed (machine_of n) ≡ well = ap well_formed one.1 ∙ (after_keeps first (machine_of m) ∙ w) in
      let more = rw one.1 at (chain_slow kept others) in
      rw (
        answers_append first (flat_map calls_of rest) (machine_of m),
        after_append first (flat_map calls_of rest) (machine_of m),
      ) (both _ _ _ _ one.0 more.0, more.1)

-- What is seen of a step agrees with the slow run.
records_agree :
    (n : ℕ) (bytes : List ℕ) (xs : List bus.Answer) → length xs ≡ n → take (entry_length * n) bytes ≡ entries xs →
    Agree (records n bytes) xs
records_agree zero bytes [] many e = none
records_agree zero bytes (x ∷ xs) many e = absurd (omega arith)
records_agree (suc n) bytes [] many e = absurd (omega arith)
records_agree (suc n) bytes (x ∷ xs) many e =
    let split = first_entry n bytes (entries xs) x e in
    record_of split.0 (records_agree n (drop entry_length bytes) xs (omega arith) split.1)

pub agree_append :
    {seen more : List Seen} {xs ys : List bus.Answer} → Agree seen xs → Agree more ys → Agree (seen ++ more) (xs ++ ys)
agree_append none g = g
agree_append (answer e f) g = answer e (agree_append f g)
agree_append (record_of e f) g = record_of e (agree_append f g)

run_agrees :
    (n : ℕ) (script log : List ℕ) {m : Machine} {r : Ran} {bytes : List ℕ} → Conforms m (run_first n script log) r bytes →
    Agree (records r.done bytes) (answers (calls r.done script) (machine_of m)) ×
    (machine_of r.machine ≡ after (calls r.done script) (machine_of m))
run_agrees n script log {m} {r} {bytes} c =
    let ran = run_did script log n c in
    let cs = calls r.done script in (
      records_agree r.done bytes (answers cs (machine_of m))
          (length_answers cs (machine_of m) ∙ length_calls r.done script) ran.1,
      ran.2,
    )

pub step_agrees :
    {m n : Machine} {cs : List Call} {seen : List Seen} → Step m cs seen n →
    Agree seen (answers cs (machine_of m)) × (machine_of n ≡ after cs (machine_of m))
unfolding run piece
step_agrees (call h) = (answer h.answer none, ap (λ (x : bus.Answer). x.machine) h.answer)
step_agrees (script_run limit script log h) =
    run_agrees (min limit (min (whole script) (fitting log))) script log h
step_agrees (input_piece input log h) = run_agrees (min (with_tail input) (fitting log)) input log h

-- A run with room, and a piece with room, is the slow run of the records that are given, where the machine is well formed, and
-- of none where it is not.
abbrev pub SlowLog : (cs : List Call) (m : Machine) (written : List ℕ) (n : Machine) → Type 0
SlowLog cs m written n = (written ≡ entries (answers cs (machine_of m))) × (machine_of n ≡ after cs (machine_of m))

run_slow :
    (n k : ℕ) (script log : List ℕ) {m : Machine} {r : Ran} {bytes : List ℕ} (well : Bool) →
    well_formed (machine_of m) ≡ well → Conforms m (run_first n script log) r bytes → n ≡ k →
    SlowLog (calls (cond well k 0) script) m (log_of r bytes) r.machine
run_slow n k script log {m} {r} well w c e =
    let ran = run_did script log n c in
    let count : r.done ≡ cond well k 0 = ran.0 ∙ rw (w, e) refl in
    rw (← count) (ran.1, ran.2)

pub run_with_room_slow :
    (well : Bool) (m n : Machine) (script written : List ℕ) → well_formed (machine_of m) ≡ well → RunWithRoom m script written n →
    SlowLog (calls (cond well (whole script) 0) script) m written n
unfolding run
run_with_room_slow well m n script written w (with_room limit _ log c h k) = run_slow _ (whole script) script log well w c (omega arith)

piece_with_room_slow :
    (well : Bool) (m n : Machine) (input written : List ℕ) → well_formed (machine_of m) ≡ well → PieceWithRoom m input written n →
    SlowLog (calls (cond well (with_tail input) 0) input) m written n
unfolding piece
piece_with_room_slow well m n input written w (with_room _ log c h) = run_slow _ (with_tail input) input log well w c (omega arith)

entries_both :
    (xs ys : List ℕ) (rs ss : List bus.Answer) → xs ≡ entries rs → ys ≡ entries ss → xs ++ ys ≡ entries (rs ++ ss)
entries_both xs ys rs ss e f = rw (entries_append rs ss, e, f) refl

-- A script in pieces: where the run of each piece is the slow run of the records that are given in it, the runs of all of them
-- are that of the script's.
module _
    (given : List ℕ → ℕ) (counts : Counts given) (Does : Machine → List ℕ → List ℕ → Machine → Type 0)
    (each :
    (well : Bool) (m n : Machine) (script written : List ℕ) → well_formed (machine_of m) ≡ well → Does m script written n →
    SlowLog (calls (cond well (given script) 0) script) m written n) where
  pieces_slow :
      {m end : Machine} {script joined : List ℕ} {pieces : List (List ℕ)} → Cut script pieces →
      Chain Does m pieces joined end →
      SlowLog (calls (cond (well_formed (machine_of m)) (given script) 0) script) m joined end
  pieces_slow {m} cuts runs =
      let well = well_formed (machine_of m) in
      rw (pieces_calls given counts well cuts) at
      (chain_slow Does (λ (p : List ℕ). calls (cond well (given p) 0) p) (λ written rs. written ≡ entries rs) well refl
      entries_both (each well) refl runs)

pub runs_slow :
    {m end : Machine} {script joined : List ℕ} {pieces : List (List ℕ)} → Cut script pieces →
    Chain RunWithRoom m pieces joined end →
    SlowLog (calls (cond (well_formed (machine_of m)) (whole script) 0) script) m joined end
runs_slow = pieces_slow whole whole_counts RunWithRoom run_with_room_slow

-- What the program logs for the pieces of its input, from a well-formed machine on: the whole records, and the tail.
pub inputs_slow :
    {m end : Machine} {script joined : List ℕ} {inputs : List (List ℕ)} → well_formed (machine_of m) ≡ true →
    Cut script inputs → Chain PieceWithRoom m inputs joined end →
    (let cs = calls (whole script) script in
    (joined ≡ entries (answers cs (machine_of m)) ++ tail_log script (after cs (machine_of m))) ×
    (machine_of end ≡ after cs (machine_of m)))
inputs_slow {m} {script} well cuts pieces =
    let parts = rw well at (pieces_slow with_tail tail_counts PieceWithRoom piece_with_room_slow cuts pieces) in
    let tail = tail_answered script (machine_of m) well in
    (parts.0 ∙ tail.0, parts.1 ∙ tail.1)
