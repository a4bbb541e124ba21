-- Steps on a machine, one after the other, and what is seen of them: the words of the claims on lists of calls and on scripts.
-- A step here is a call, a run or a piece of input, and may make many calls.
use Rattle.std.specs.Prelude.{ℕ, zero, suc, ◌*◌, ◌≤◌, ◌≡◌, take, drop}
use mathlib.Core.List.{List, [], ◌∷◌, ◌++◌, flat_map}
use Rattle.bus.specs.Machine as bus
use Rattle.bus.specs.View as view
use Rattle.bus.specs.View.{answer_of}
use Rattle.bus.specs.declared.machine.Machine.{Machine}
use Rattle.bus.specs.declared.machine.Answer.{Answer}
use Rattle.bus.specs.declared.machine.Call.{Call}
use Rattle.script.specs.Script.{calls}
use Rattle.script.specs.Log.{entry_length, entry}
use Rattle.script.specs.Run.{whole, fitting, run, with_tail, piece}
use Rattle.script.specs.View.{Conforms}
use Rattle.script.specs.declared.run.Ran.{Ran}

-- `Does m given shown n` says that a step that is given `given` on the machine `m` shows `shown` and leaves the machine
-- `n`. A chain of steps, each on the machine that the one before left, has what each is given, what all of them show,
-- joined, and the last machine.
pub data Chain {A B : Type 0} (Does : Machine → A → List B → Machine → Type 0) :
    Machine → List A → List B → Machine → Type 0 where
  stop : {m : Machine} → Chain Does m [] [] m
  next :
      {m n end : Machine} {given : A} {rest : List A} {shown others : List B} → Does m given shown n →
      Chain Does n rest others end → Chain Does m (given ∷ rest) (shown ++ others) end

-- What is seen of a call: its answer, or the log record of a script record.
pub data Seen : Type 0 where
  answered : Answer → Seen
  logged : List ℕ → Seen

-- What is seen, in order, are these answers: a call's answer on its view, a script record's log record as `entry`.
pub data Agree : List Seen → List bus.Answer → Type 0 where
  none : Agree [] []
  answer :
      {a : Answer} {x : bus.Answer} {seen : List Seen} {xs : List bus.Answer} → answer_of a ≡ x → Agree seen xs →
      Agree (answered a ∷ seen) (x ∷ xs)
  record_of :
      {bytes : List ℕ} {x : bus.Answer} {seen : List Seen} {xs : List bus.Answer} → bytes ≡ entry x → Agree seen xs →
      Agree (logged bytes ∷ seen) (x ∷ xs)

-- the first n log records
abbrev pub records : ℕ → List ℕ → List Seen
records zero bytes = []
records (suc n) bytes = logged (take entry_length bytes) ∷ records n (drop entry_length bytes)

-- A step: a call, a run of script records, or what the program does with a piece of its input; with the calls that it
-- makes, script records among them, what is seen of each, and the machine after it.
pub data Step : Machine → List Call → List Seen → Machine → Type 0 where
  call : {m : Machine} {c : Call} {a : Answer} → view.Conforms m c a → Step m (c ∷ []) (answered a ∷ []) a.machine
  script_run :
      (limit : ℕ) (script log : List ℕ) {m : Machine} {r : Ran} {bytes : List ℕ} →
      Conforms m (run limit script log) r bytes →
      Step m (calls r.done script) (records r.done bytes) r.machine
  input_piece :
      (input log : List ℕ) {m : Machine} {r : Ran} {bytes : List ℕ} → Conforms m (piece input log) r bytes →
      Step m (calls r.done input) (records r.done bytes) r.machine

-- the calls of all steps, in order
abbrev pub all_calls : List (List Call) → List Call
all_calls steps = flat_map (λ (cs : List Call). cs) steps

-- What a run wrote: the log records of the records that it did.
abbrev pub log_of : Ran → List ℕ → List ℕ
log_of r bytes = take (entry_length * r.done) bytes

-- A run whose limit and log leave room for every whole record of its script (on an ill-formed machine it does none all the
-- same); with the log records that it wrote and the machine after it.
pub data RunWithRoom : Machine → List ℕ → List ℕ → Machine → Type 0 where
  with_room :
      (limit : ℕ) (script log : List ℕ) {m : Machine} {r : Ran} {bytes : List ℕ} →
      Conforms m (run limit script log) r bytes → whole script ≤ limit → whole script ≤ fitting log →
      RunWithRoom m script (log_of r bytes) r.machine

-- What the program does with a piece of its input, where its log has room for each record, a tail's included.
pub data PieceWithRoom : Machine → List ℕ → List ℕ → Machine → Type 0 where
  with_room :
      (input log : List ℕ) {m : Machine} {r : Ran} {bytes : List ℕ} → Conforms m (piece input log) r bytes →
      with_tail input ≤ fitting log → PieceWithRoom m input (log_of r bytes) r.machine
