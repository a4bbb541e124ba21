-- The line of a verdict: paper 02, No. 1. "It prints one line, as `equal`, `record 3 cycles` (counted from 1), `record 3
-- pulses 4`, `partial 1`, `beginning 2` (the shorter log) or `refused 1 12`."
use Rattle.std.specs.Prelude.{ℕ, List, ◌++◌}
use Rattle.script.specs.Text.{text, decimal, newline}
use Rattle.script.specs.declared.entry.Field.{Field}
use Rattle.script.specs.declared.entry.Field.TheVariants.{Number, Emitted, Levels, Value, Cycles, Pulses}
use Rattle.compare.specs.declared.verdict.Log.{Log}
use Rattle.compare.specs.declared.verdict.Log.TheVariants.{First, Second}
use Rattle.compare.specs.declared.verdict.Verdict.{Verdict}
use Rattle.compare.specs.declared.verdict.Verdict.TheVariants.{Refused, Record, Partial, Beginning, Equal}

abbrev pub log_text : Log → List ℕ
log_text First = text "1"
log_text Second = text "2"

-- "number, emitted, levels, value, cycles, or pulses of timer n"
abbrev pub field_text : Field → List ℕ
field_text Number = text "number"
field_text Emitted = text "emitted"
field_text Levels = text "levels"
field_text Value = text "value"
field_text Cycles = text "cycles"
field_text (Pulses n) = text "pulses " ++ decimal n

abbrev pub verdict_text : Verdict → List ℕ
verdict_text (Refused log number) = text "refused " ++ log_text log ++ text " " ++ decimal number
verdict_text (Record n field) = text "record " ++ decimal n ++ text " " ++ field_text field
verdict_text (Partial log) = text "partial " ++ log_text log
verdict_text (Beginning log) = text "beginning " ++ log_text log
verdict_text Equal = text "equal"

unfoldable pub line : Verdict → List ℕ
line v = verdict_text v ++ newline
