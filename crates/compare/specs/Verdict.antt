-- The verdict on two logs: paper 02, No. 1. `first` and `second` are whole files; `records` and `records'` are what follows
-- their headers.
use Rattle.std.specs.Prelude.{ℕ, zero, suc, ◌/◌, ◌%◌, min, Bool, true, false, not, cond, ◌&&◌, List, [], ◌∷◌, ◌==◌, nat_lt, length, take, drop}
use Rattle.devices.specs.Refusal.{not_refused}
use Rattle.script.specs.Format.{log, header, header_length, refusal}
use Rattle.script.specs.Log.{entry_length, layout}
use Rattle.script.specs.declared.entry.Field.{Field}
use Rattle.script.specs.declared.entry.Part.{Part}
use Rattle.compare.specs.declared.verdict.Log.{Log}
use Rattle.compare.specs.declared.verdict.Log.TheVariants.{First, Second}
use Rattle.compare.specs.declared.verdict.Verdict.{Verdict}
use Rattle.compare.specs.declared.verdict.Verdict.TheVariants.{Refused, Record, Partial, Beginning, Equal}

-- whether two lists of bytes are equal
abbrev pub alike : List ℕ → List ℕ → Bool
alike [] [] = true
alike [] (y ∷ ys) = false
alike (x ∷ xs) [] = false
alike (x ∷ xs) (y ∷ ys) = x == y && alike xs ys

-- "names .. the first differing field": of some fields, which follow each other in the bytes, the first that differs is
-- `named`; `otherwise` none does
unfoldable pub in_fields :
    {A : Type 0} (named : Field → A) → List Part → (bytes bytes' : List ℕ) → (otherwise : A) → A
in_fields named [] bytes bytes' otherwise = otherwise
in_fields named (p ∷ ps) bytes bytes' otherwise =
    cond (alike (take p.width bytes) (take p.width bytes'))
    (in_fields named ps (drop p.width bytes) (drop p.width bytes') otherwise) (named p.field)

-- "names the first record that differs": of `count` records, which follow n equal ones, the first that differs is `named` by its
-- number, "counted from 1", and its field; `otherwise` none does
unfoldable pub in_records :
    {A : Type 0} (named : ℕ → Field → A) → (count n : ℕ) → (records records' : List ℕ) → (otherwise : A) → A
in_records named zero n records records' otherwise = otherwise
in_records named (suc count) n records records' otherwise =
    in_fields (named (suc n)) layout records records'
    (in_records named count (suc n) (drop entry_length records) (drop entry_length records') otherwise)

-- how many whole records a log has, and how many "whole records both have"
abbrev pub whole : List ℕ → ℕ
whole records = length records / entry_length

abbrev pub common : (records records' : List ℕ) → ℕ
common records records' = min (whole records) (whole records')

-- whether there is "a partial record at the end"
abbrev pub partial : List ℕ → Bool
partial records = not (length records % entry_length == 0)

-- "else a partial record at the end is named, with its log, the first log first; else a strict beginning; else equal";
-- "`beginning 2` (the shorter log)"
abbrev pub at_end : (records records' : List ℕ) → Verdict
at_end records records' =
    cond (partial records) (Partial First)
    (cond (partial records') (Partial Second)
    (cond (nat_lt (length records) (length records')) (Beginning First)
    (cond (nat_lt (length records') (length records)) (Beginning Second) Equal)))

-- "The first difference in whole records both have comes first"
abbrev pub on_records : (records records' : List ℕ) → Verdict
on_records records records' = in_records Record (common records records') 0 records records' (at_end records records')

-- "or refuses a log by 11 or 12": what a refused file comes to, by its number; `otherwise` it is not refused
abbrev pub judged : {A : Type 0} (refused : ℕ → A) → (file : List ℕ) → (otherwise : A) → A
judged refused file otherwise = cond (refusal log file == not_refused) otherwise (refused (refusal log file))

-- The verdict: "the first log judged first", then the second, then the records of both.
abbrev pub verdict : (first second : List ℕ) → Verdict
verdict first second =
    judged (Refused First) first
    (judged (Refused Second) second (on_records (drop header_length first) (drop header_length second)))

-- "A missing or unreadable log counts as empty": the first, or the second behind a first that is accepted. (It does not matter
-- what the other log is: `unreadable_first` and `unreadable_second` of the laws.)
abbrev pub unreadable : Log → Verdict
unreadable First = verdict [] []
unreadable Second = verdict (header log) []
