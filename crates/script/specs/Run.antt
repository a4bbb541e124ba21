-- A run of script records, and what the program does with a piece of its input: paper 01, "Script and log", "Refusal
-- numbers" and "The slow run".
use Rattle.std.specs.Prelude.{ℕ, ◌+◌, ◌/◌, ◌%◌, min, cond, List, [], ◌==◌, length}
use Rattle.devices.specs.Refusal.{not_refused, ill_formed}
use Rattle.bus.specs.Machine.{Machine, Answer, well_formed}
use Rattle.bus.specs.SlowRun.{answers, after}
use Rattle.script.specs.Buffer.{wrote}
use Rattle.script.specs.Script as scripts
use Rattle.script.specs.Script.{calls}
use Rattle.script.specs.Log as logs
use Rattle.script.specs.Log.{entries}

-- What a run answers: its refusal number, how many records it did, the answers to them, the log, and the machine after it.
pub record Ran : Type 0 where
  pub refusal : ℕ
  pub done : ℕ
  pub answers : List Answer
  pub log : List ℕ
  pub machine : Machine

-- "on such a machine a run logs the slow run's answers, in order, for the records it does, and leaves the machine that the
-- slow run leaves after them." "It reports that number; the log after them is not touched."
abbrev pub ran : (n : ℕ) (script log : List ℕ) → Machine → Ran
ran n script log m =
    record {
      refusal = not_refused;
      done = n;
      answers = answers (calls n script) m;
      log = wrote log 0 (entries (answers (calls n script) m));
      machine = after (calls n script) m;
    }

-- "Refusal 9 of the whole run does 0 records." "A refused call writes nothing into a lent buffer".
abbrev pub run_refused : (log : List ℕ) → Machine → Ran
run_refused log m = record { refusal = ill_formed; done = 0; answers = []; log = log; machine = m }

-- A run of the first n records: "Every call on a machine is subject to 9".
abbrev pub run_first : (n : ℕ) (script log : List ℕ) → Machine → Ran
run_first n script log m = cond (well_formed m) (ran n script log m) (run_refused log m)

-- "whole records given", "whole log records that fit"
abbrev pub whole : (script : List ℕ) → ℕ
whole script = length script / scripts.record_length

abbrev pub fitting : (log : List ℕ) → ℕ
fitting log = length log / logs.entry_length

-- "A run takes the machine, script records, a lent log and a limit in records. It does the smallest of: the limit, whole
-- records given, whole log records that fit. A partial record at the end of what it is given is passed over".
unfoldable pub run : (limit : ℕ) (script log : List ℕ) → Machine → Ran
run limit script log = run_first (min limit (min (whole script) (fitting log))) script log

-- The records of a piece of the program's input: the whole ones, and a tail as one more, which is "cut short".
abbrev pub with_tail : (script : List ℕ) → ℕ
with_tail script = whole script + cond (length script % scripts.record_length == 0) 0 1

-- What the program does with a piece of its input: as a run whose limit is never reached, and a tail is one record more.
unfoldable pub piece : (script log : List ℕ) → Machine → Ran
piece script log = run_first (min (with_tail script) (fitting log)) script log
