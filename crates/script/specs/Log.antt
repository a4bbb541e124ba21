-- Log records: paper 01, "Script and log".
use Rattle.std.specs.Prelude.{ℕ, cond, List, [], ◌∷◌, ◌++◌}
use Rattle.bus.specs.Machine.{Answer, pulses_of}
use Rattle.script.specs.Number.{encoded}
use Rattle.script.specs.declared.entry.Part.{Part}
use Rattle.script.specs.declared.entry.Field.{Field}
use Rattle.script.specs.declared.entry.Field.TheVariants.{Number, Emitted, Levels, Value, Cycles, Pulses}

-- "A log record is 48 bytes"
abbrev pub entry_length : ℕ
entry_length = 48

-- "0 refusal number; 1 is 1 if a byte was emitted; 2 that byte, else 0; 3 the line levels after it, bit p for port p; 4-7
-- value read; 8-15 cycles passed; 16-47 the four pulse counts, timer 1 first."
unfoldable pub entry : Answer → List ℕ
entry a =
    encoded 1 a.refusal ++ encoded 1 (cond a.emitted 1 0) ++ encoded 1 a.byte ++ encoded 1 a.levels ++
    encoded 4 a.value ++ encoded 8 a.cycles ++
    encoded 8 (pulses_of 1 a) ++ encoded 8 (pulses_of 2 a) ++ encoded 8 (pulses_of 3 a) ++ encoded 8 (pulses_of 4 a)

-- The same record as a table of its fields by their names, "number, emitted, levels, value, cycles, or pulses of timer n"
-- (paper 02, No. 1), each with its number of bytes, in their order. Bytes 1 and 2 together are `emitted`. (`entry_parts` of
-- the laws: the table is that of `entry`.)
abbrev part : Field → ℕ → Part
part field width = record { field = field; width = width }

abbrev pub layout : List Part
layout =
    part Number 1 ∷ part Emitted 2 ∷ part Levels 1 ∷ part Value 4 ∷ part Cycles 8 ∷ part (Pulses 1) 8 ∷ part (Pulses 2) 8 ∷
    part (Pulses 3) 8 ∷ part (Pulses 4) 8 ∷ []

-- the log records of answers, in order
abbrev pub entries : List Answer → List ℕ
entries [] = []
entries (a ∷ rest) = entry a ++ entries rest
