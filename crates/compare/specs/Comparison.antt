-- Comparing piece by piece: paper 02, No. 1. "Logs are longer than memory; where its pieces fall may not change its verdict."
use Rattle.std.specs.Prelude.{ℕ, ◌+◌, ◌-◌, ◌*◌, min, cond, List, nat_lt, length}
use Rattle.script.specs.Log.{entry_length}
use Rattle.script.specs.declared.entry.Field.{Field}
use Rattle.compare.specs.Verdict.{in_records, whole, common, at_end, judged}
use Rattle.compare.specs.declared.verdict.Log.{Log}
use Rattle.compare.specs.declared.verdict.Log.TheVariants.{First, Second}
use Rattle.compare.specs.declared.verdict.Verdict.{Verdict}
use Rattle.compare.specs.declared.verdict.Verdict.TheVariants.{Refused, Record, Partial, Beginning, Equal}
use Rattle.compare.specs.declared.comparison.Comparison.{Comparison}
use Rattle.compare.specs.declared.comparison.Comparison.TheVariants.{Undecided, Decided}

-- The beginning, from the logs' first bytes: one is refused, or no record is compared yet.
abbrev pub refused_as : Log → (number : ℕ) → Comparison
refused_as which number = Decided (Refused which number)

abbrev pub begun : (first second : List ℕ) → Comparison
begun first second = judged (refused_as First) first (judged (refused_as Second) second (Undecided 0))

-- The code's count of records stays at the largest number of 64 bits.
abbrev pub largest : ℕ
largest = 0xFFFF_FFFF_FFFF_FFFF

abbrev pub saturated : Verdict → Verdict
saturated (Refused log number) = Refused log number
saturated (Record n field) = Record (min n largest) field
saturated (Partial log) = Partial log
saturated (Beginning log) = Beginning log
saturated Equal = Equal

-- A piece of each log, after n records that are equal: the whole records that both pieces have are compared. A verdict that is
-- known stays.
abbrev pub differing : ℕ → Field → Comparison
differing n field = Decided (saturated (Record n field))

unfoldable pub next : Comparison → (piece piece' : List ℕ) → Comparison
next (Undecided n) piece piece' =
    in_records differing (common piece piece') n piece piece' (Undecided (min (n + common piece piece') largest))
next (Decided v) piece piece' = Decided v

-- How many bytes of either piece are taken: those of the whole records that both have, where these are equal; none where the
-- verdict is known.
abbrev pub taken_by : Comparison → (count : ℕ) → ℕ
taken_by (Undecided n) count = entry_length * count
taken_by (Decided v) count = 0

abbrev pub taken : Comparison → (piece piece' : List ℕ) → ℕ
taken c piece piece' = taken_by (next c piece piece') (common piece piece')

-- The end, with all that is left of each log.
abbrev pub decided : Comparison → (otherwise : Verdict) → Verdict
decided (Undecided n) otherwise = otherwise
decided (Decided v) otherwise = v

abbrev pub end : Comparison → (records records' : List ℕ) → Verdict
end c records records' = decided (next c records records') (at_end records records')

-- Where `left`, less than a record, is all that is left of one log: how many bytes of a piece of the other the verdict does not
-- depend on. They are those of all its whole records but one, and none where it has none (1 less than 0 is 0).
abbrev pub surplus : (left piece : List ℕ) → ℕ
surplus left piece = cond (nat_lt (length left) entry_length) (entry_length * (whole piece - 1)) 0
