-- How a script is cut, and how the program cuts its input: demand 3 (README.md), and paper 01, "Script and log".
use Rattle.std.specs.Prelude.{ℕ, ◌*◌, ◌/◌, ◌%◌, ◌<◌, ◌≡◌, List, [], ◌∷◌, ◌++◌, length}
use Rattle.script.specs.Script.{record_length}
use Rattle.script.specs.Log as logs

-- A script is cut between records into pieces: each but the last is of whole records. An empty script may be cut into none.
pub data Cut : List ℕ → List (List ℕ) → Type 0 where
  none : Cut [] []
  uncut : {piece : List ℕ} → Cut piece (piece ∷ [])
  cut :
      {piece rest : List ℕ} {pieces : List (List ℕ)} → length piece % record_length ≡ 0 → Cut rest pieces →
      Cut (piece ++ rest) (piece ∷ pieces)

-- "The program reads standard input in pieces of 4,096 bytes"
abbrev pub piece_length : ℕ
piece_length = 4096

-- What follows the header, in such pieces: each but the last has as many bytes, and the last has fewer, none if the input
-- ends with a full piece.
pub data InPieces : List ℕ → List (List ℕ) → Type 0 where
  last : {piece : List ℕ} → length piece < piece_length → InPieces piece (piece ∷ [])
  full :
      {piece rest : List ℕ} {pieces : List (List ℕ)} → length piece ≡ piece_length → InPieces rest pieces →
      InPieces (piece ++ rest) (piece ∷ pieces)

-- Room in the log for what a piece logs: a log record for each record.
abbrev pub log_length : ℕ
log_length = logs.entry_length * (piece_length / record_length)
