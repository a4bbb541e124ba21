-- The refusal numbers of a file: paper 01, "Refusal numbers".
use Rattle.std.specs.Prelude.{ℕ}

-- "11 | a file is shorter than 5 bytes or has the wrong mark"
abbrev pub bad_file : ℕ
bad_file = 11

-- "12 | the version isn't 1"
abbrev pub bad_version : ℕ
bad_version = 12
