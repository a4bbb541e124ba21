-- What a script and a log begin with: paper 01, "Script and log". The code's struct says no more than the paper does, so
-- the definitions are on that struct.
use Rattle.std.specs.Prelude.{ℕ, not, ◌||◌, List, [], ◌∷◌, ◌++◌, ◌==◌, nat_lt, length, Result, Ok, Err}
use Rattle.devices.specs.Refusal.{not_refused}
use Rattle.bus.specs.Call.{◌when◌, first}
use Rattle.script.specs.Number.{number, encoded}
use Rattle.script.specs.Refusal.{bad_file, bad_version}
use Rattle.script.specs.Text.{text, decimal, newline}
use Rattle.script.specs.declared.format.Format.{Format}
use Rattle.script.specs.declared.format.Reason.{Reason}
use Rattle.script.specs.declared.format.Reason.TheVariants.{BadFile, BadVersion}

-- "A script starts with `APS` and a 16-bit version 1"; the mark's bytes are 41 50 53, here as a number
abbrev pub script : Format
script = record { mark = 0x415053; version = 1 }

-- "a log with `APL` and version 1": 41 50 4C
abbrev pub log : Format
log = record { mark = 0x41504C; version = 1 }

abbrev pub header : Format → List ℕ
header f = encoded 3 f.mark ++ encoded 2 f.version

abbrev pub header_length : ℕ
header_length = 5

-- "11 | a file is shorter than 5 bytes or has the wrong mark", "12 | the version isn't 1"; "11 before 12"
abbrev pub refusal : Format → List ℕ → ℕ
refusal f file =
    first
    (bad_file when (nat_lt (length file) header_length || not (number 0 3 file == f.mark)) ∷
    bad_version when not (number 3 2 file == f.version) ∷
    [])

-- The number of each of the code's reasons for a refusal, and of each verdict, where a file that is accepted has no reason: "0 | not
-- refused".
abbrev pub number_of : Reason → ℕ
number_of BadFile = bad_file
number_of BadVersion = bad_version

abbrev pub verdict_number : Result (Unit {0}) Reason → ℕ
verdict_number (Ok accepted) = not_refused
verdict_number (Err reason) = number_of reason

-- "For a bad header it writes only `refused 11` or `refused 12` and a newline."
abbrev pub refusal_line : ℕ → List ℕ
refusal_line number = text "refused " ++ decimal number ++ newline
