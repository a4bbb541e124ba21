-- What is claimed of the model, for the demands on it (README.md): begin here. The claims on single calls stand in the bus
-- (Theorems.antt there) and are passed on. Most claims are about any answers, machines and logs that meet the contracts of the
-- calls (`Conforms`, View.antt here and in the bus), so about what the code promises; `pieces_exist`, `input_cut_claim` and
-- `room_claim`, and in the bus `port_claim` and those after it, are about the definitions. The words of the claims are in
-- Steps.antt and Pieces.antt, and in Cuts.antt of the bus. Assumes nothing.
use Rattle.std.specs.Prelude.{ℕ, suc, ◌≤◌, min, ◌≡◌, refl, true, false, List, ◌++◌, length, take, drop, Ok, Err}
use Rattle.std.proofs.Common.{sym, ap, ◌∙◌, arith, ne_eqb}
use Rattle.devices.specs.Refusal.{not_refused, ill_formed}
use Rattle.bus.specs.Board.{gr712rc}
use Rattle.bus.specs.Machine as bus
use Rattle.bus.specs.Machine.{well_formed}
use Rattle.bus.specs.SlowRun.{answers, after}
use Rattle.bus.proofs.Laws.SlowRun.{after_keeps}
use Rattle.bus.specs.Cuts.{Item, uncut_calls, cut_calls, Rejoined}
use Rattle.bus.proofs.Laws.Cuts.{slow_cut}
use Rattle.bus.specs.View.{machine_of}
use Rattle.bus.specs.declared.machine.Machine.{Machine}
use Rattle.bus.specs.declared.machine.Call.{Call}
use Rattle.script.specs.Format as format
use Rattle.script.proofs.Laws.Format as format-laws
use Rattle.script.specs.Buffer.{wrote}
use Rattle.script.specs.Script.{calls}
use Rattle.script.specs.Log.{entries}
use Rattle.script.specs.Run.{whole, fitting, run, with_tail}
use Rattle.script.proofs.Laws.Run as laws
use Rattle.script.specs.Pieces.{Cut, uncut, cut, piece_length, log_length, InPieces, last, full}
use Rattle.script.specs.Steps.{Chain, Seen, Agree, Step, none, all_calls, RunWithRoom, PieceWithRoom}
use Rattle.script.proofs.Laws.Steps.{chain_slow, agree_append, step_agrees, run_with_room_slow, runs_slow, inputs_slow}
use Rattle.script.specs.Program.{tail_log, output}
use Rattle.script.proofs.Laws.Program.{reset_well}
use Rattle.script.specs.View.{Conforms}
use Rattle.script.proofs.Laws.View.{run_did}
use Rattle.script.specs.declared.format.Reason.{Reason}
use Rattle.script.specs.declared.run.Ran.{Ran}
pub use Rattle.bus.proofs.Theorems.{skip_claim, well_claim, ill_claim, number_claim, accepted_claim, refusal_claim}
pub use Rattle.bus.proofs.Theorems.{port_claim, unit_claim, controller_claim, register_claim, board_claim, window_claim}

-- Demand 3, whole. "This is a single claim about the list": what is seen of its calls, script records among them, are
-- the slow run's answers, and the last machine is the slow run's; whatever the calls, refused and malformed ones
-- included, however they are put into scripts and these into runs, and whatever the first machine.
pub list_claim :
    {m end : Machine} {steps : List (List Call)} {seen : List Seen} → Chain Step m steps seen end →
    Agree seen (answers (all_calls steps) (machine_of m)) × (machine_of end ≡ after (all_calls steps) (machine_of m))
list_claim {m} t =
    chain_slow Step (λ (cs : List Call). cs) Agree (well_formed (machine_of m)) none (λ xs ys rs ss e f. agree_append e f)
    (λ m n cs seen w s. step_agrees s) refl t

-- Demand 3: time may be cut anywhere. Replace any advances of a list, script records among them, each by spans that add up
-- to its own (an advance of 0 also by none), put any of the calls into scripts, cut those as you like, and begin with an
-- equal machine. Then what is seen of the cut list are the slow run's answers `xs` to it, what is seen of the uncut list its
-- answers `ys`, and `ys` are `xs` with the spans put together (`Rejoined`): every other answer as it is, the cycles and each
-- timer's pulses of the spans added up. The last machine is the same.
pub cut_claim :
    (es : List Item) {m n end end' : Machine} {steps cutSteps : List (List Call)} {seen cutSeen : List Seen} →
    machine_of m ≡ machine_of n → Chain Step m steps seen end → all_calls steps ≡ uncut_calls es →
    Chain Step n cutSteps cutSeen end' → all_calls cutSteps ≡ cut_calls es →
    (let xs = answers (cut_calls es) (machine_of n) in
    let ys = answers (uncut_calls es) (machine_of n) in
    Agree cutSeen xs × Agree seen ys × Rejoined es (machine_of n) xs ys × (machine_of end ≡ machine_of end'))
cut_claim es {m} {n} e t uncuts u cuts =
    let slow = slow_cut es (machine_of n) in
    let one = rw (e, uncuts) at (list_claim t) in
    let two = rw cuts at (list_claim u) in
    (two.0, one.0, slow.0, one.1 ∙ slow.1 ∙ sym two.1)

-- Demand 3, runs. "on such a machine a run logs the slow run's answers, in order, for the records it does, and leaves
-- the machine that the slow run leaves after them", a malformed record being a refused call. It does the smallest of
-- the three counts, and the log after them is not touched.
pub record AsSlowRun (limit : ℕ) (script log : List ℕ) (m : Machine) (r : Ran) (bytes : List ℕ) : Type 0 where
  pub accepted : r.refusal ≡ not_refused
  pub done : r.done ≡ min limit (min (whole script) (fitting log))
  pub logs : bytes ≡ wrote log 0 (entries (answers (calls r.done script) (machine_of m)))
  pub leaves : machine_of r.machine ≡ after (calls r.done script) (machine_of m)

pub run_claim :
    (limit : ℕ) (script log : List ℕ) {bytes : List ℕ} {m : Machine} {r : Ran} → well_formed (machine_of m) ≡ true →
    Conforms m (run limit script log) r bytes → AsSlowRun limit script log m r bytes
unfolding run
run_claim limit script log w c =
    let done = rw w at c.done in
    record {
      accepted = rw w at c.number;
      done = done;
      logs = rw done (rw w at c.log);
      leaves = rw done (rw w at c.machine);
    }

-- Demand 1, runs. "Refusal 9 of the whole run does 0 records": on an ill-formed machine nothing is written, and the
-- machine comes back alike in every field.
pub run_ill_claim :
    (limit : ℕ) (script log : List ℕ) {bytes : List ℕ} {m : Machine} {r : Ran} → well_formed (machine_of m) ≡ false →
    Conforms m (run limit script log) r bytes →
    (r.refusal ≡ ill_formed) × (r.done ≡ 0) × (bytes ≡ log) × (r.machine ≡ m)
unfolding run
run_ill_claim limit script log {r} ill c =
    let nine : r.refusal ≡ ill_formed = rw ill at c.number in (
      nine,
      rw ill at c.done,
      rw ill at c.log,
      c.same (λ z. let both : ill_formed ≡ not_refused = sym nine ∙ z in absurd (omega arith)),
    )

-- A run neither makes nor repairs an ill-formed machine.
pub run_well_claim :
    (limit : ℕ) (script log : List ℕ) {bytes : List ℕ} {m : Machine} {r : Ran} → Conforms m (run limit script log) r bytes →
    well_formed (machine_of r.machine) ≡ well_formed (machine_of m)
unfolding run
run_well_claim limit script log {bytes} {m} {r} c =
    ap well_formed (run_did script log (min limit (min (whole script) (fitting log))) c).2 ∙
    after_keeps (calls r.done script) (machine_of m)

-- Demand 3, scripts: however a script is cut between records, and whatever the machine, ill-formed ones included, the runs of
-- its pieces yield, joined, the log of one uncut run, and the same last machine, where limits and log room cover every record.
pub pieces_claim :
    {m n end last : Machine} {script joined written : List ℕ} {pieces : List (List ℕ)} → machine_of m ≡ machine_of n →
    Cut script pieces → Chain RunWithRoom m pieces joined end → RunWithRoom n script written last →
    (joined ≡ written) × (machine_of end ≡ machine_of last)
pieces_claim {m} {n} {last} {script} {written} e cuts runs one =
    let parts = runs_slow cuts runs in
    let uncut = rw (← e) at (run_with_room_slow (well_formed (machine_of m)) n last script written (ap well_formed (sym e)) one) in
    (parts.0 ∙ sym uncut.0, parts.1 ∙ sym uncut.1)

-- Every input can be read in pieces of 4,096 bytes, these are a cut between records, and a log of `log_length` bytes or more,
-- as the program lends it to each piece, has room for what the piece logs.
pub pieces_exist : (input : List ℕ) → (inputs : List (List ℕ)) × InPieces input inputs
pieces_exist input = laws.in_pieces (suc (length input)) input (omega arith)

pub input_cut_claim : {input : List ℕ} {inputs : List (List ℕ)} → InPieces input inputs → Cut input inputs
input_cut_claim (last h) = uncut
input_cut_claim (full {piece} {rest} e reads) = cut {piece = piece} {rest = rest} (rw e refl) (input_cut_claim reads)

pub room_claim : (input log : List ℕ) → length input ≤ piece_length → log_length ≤ length log → with_tail input ≤ fitting log
room_claim = laws.piece_fits

-- What the library gives the program to write is the output of its definition, whatever the input is. Either a script's first
-- bytes are refused, and it is the refusal's line.
pub refused_claim :
    (input : List ℕ) (reason : Reason) →
    format.verdict_number (Err reason) ≡ format.refusal format.script (take format.header_length input) →
    format.refusal_line (format.number_of reason) ≡ output input
unfolding output
refused_claim input reason e =
    rw (
      ← format-laws.refusal_front format.script input,
      ← e,
      ne_eqb (format.number_of reason) not_refused (format-laws.refused_number reason),
    ) refl

-- Or they are accepted, and it is a log's header and what the runs of the pieces log, from a machine at reset, however what
-- follows the header is cut between records.
pub program_claim :
    (input : List ℕ) {m end : Machine} {joined : List ℕ} {inputs : List (List ℕ)} →
    format.verdict_number (Ok tt) ≡ format.refusal format.script (take format.header_length input) →
    machine_of m ≡ bus.reset_state gr712rc → Cut (drop format.header_length input) inputs →
    Chain PieceWithRoom m inputs joined end → format.header format.log ++ joined ≡ output input
unfolding output
program_claim input e start cuts pieces =
    let rest = drop format.header_length input in
    let cs = calls (whole rest) rest in
    rw (← format-laws.refusal_front format.script input, ← e)
    (ap (λ (l : List ℕ). format.header format.log ++ l)
    ((inputs_slow (ap well_formed start ∙ reset_well) cuts pieces).0 ∙
    ap (λ (x : bus.Machine). entries (answers cs x) ++ tail_log rest (after cs x)) start))

-- Its log records are those of one run over all that follows the header, and for a tail of 1 to 15 bytes one more, with
-- number 10; and its last machine is that run's.
pub one_run_claim :
    {m n end last : Machine} {script joined written : List ℕ} {inputs : List (List ℕ)} → machine_of m ≡ machine_of n →
    well_formed (machine_of m) ≡ true → Cut script inputs → Chain PieceWithRoom m inputs joined end →
    RunWithRoom n script written last →
    (joined ≡ written ++ tail_log script (machine_of last)) × (machine_of end ≡ machine_of last)
one_run_claim {m} {n} {last} {script} {written} e well cuts pieces one =
    let run = rw (← e) at (run_with_room_slow true n last script written (ap well_formed (sym e) ∙ well) one) in
    let records = calls (whole script) script in
    let all = inputs_slow well cuts pieces in (
      all.0 ∙
          rw run.0
          (ap (λ (x : bus.Machine). entries (answers records (machine_of m)) ++ tail_log script x) (sym run.1)),
      all.1 ∙ sym run.1,
    )
