-- What the program writes for what it reads: paper 01, "Script and log".
use Rattle.std.specs.Prelude.{ℕ, ◌%◌, cond, List, [], ◌++◌, ◌==◌, length, drop}
use Rattle.devices.specs.Refusal.{not_refused}
use Rattle.bus.specs.Board.{gr712rc}
use Rattle.bus.specs.Refusal.{bad_record}
use Rattle.bus.specs.Machine.{Machine, reset_state, refused}
use Rattle.bus.specs.SlowRun.{answers, after}
use Rattle.script.specs.Format.{script, log, header, header_length, refusal, refusal_line}
use Rattle.script.specs.Script.{record_length, calls}
use Rattle.script.specs.Log.{entry, entries}
use Rattle.script.specs.Run.{whole}

-- "A tail of 1 to 15 bytes adds one log record with number 10": what it adds, on the machine that the records before it
-- left.
abbrev pub tail_log : (script : List ℕ) → Machine → List ℕ
tail_log script m = cond (length script % record_length == 0) [] (entry (refused bad_record m))

-- The log records of what follows the header: those of its whole records, from a machine that "starts at reset", and the
-- tail's. "A header with nothing after it gives a log of its 5 header bytes": nothing has neither records nor a tail.
abbrev pub log_records : List ℕ → List ℕ
log_records rest =
    (let records = calls (whole rest) rest in
    let start = reset_state gr712rc in
    entries (answers records start) ++ tail_log rest (after records start))

-- By the refusal number of the script's file: "For a bad header it writes only `refused 11` or `refused 12` and a newline."
abbrev pub written : (number : ℕ) (records : List ℕ) → List ℕ
written number records = cond (number == not_refused) (header log ++ records) (refusal_line number)

-- What the program writes for its input.
unfoldable pub output : (input : List ℕ) → List ℕ
output input = written (refusal script input) (log_records (drop header_length input))
