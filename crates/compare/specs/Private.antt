-- What functions of the crate that are not public promise; no public contract cites this.
use Rattle.std.specs.Prelude.{ℕ, ◌<◌, ◌≡◌, Bool, true, false, nat_eq, List, [], slice_index_or}
use Rattle.std.specs.Cmp.Lexicographic.{pointwise}
use Rattle.script.specs.declared.entry.Part.{Part}
use Rattle.script.specs.declared.entry.Field.{Field}
use Rattle.compare.specs.Verdict.{in_fields}
use Rattle.compare.specs.declared.comparison.Comparison.{Comparison}

-- whether the k-th records are equal
abbrev pub equal_at : (records records' : List (List ℕ)) → (k : ℕ) → Bool
equal_at records records' k = pointwise nat_eq (slice_index_or records k []) (slice_index_or records' k [])

-- The first n records are equal.
abbrev pub EqualBelow : (n : ℕ) → (records records' : List (List ℕ)) → Type 0
EqualBelow n records records' = (k : ℕ) → k < n → equal_at records records' k ≡ true

-- Of the first n records the k-th is the first that differs.
abbrev pub DifferAt : (n : ℕ) → (records records' : List (List ℕ)) → (k : ℕ) → Type 0
DifferAt n records records' k = (k < n) × EqualBelow k records records' × (equal_at records records' k ≡ false)

-- Of these fields, which the bytes begin with, this is the first that differs.
pub record DiffersIn (table : List Part) (bytes bytes' : List ℕ) (field : Field) : Type 0 where
  pub names : (named : Field → Comparison) (otherwise : Comparison) → in_fields named table bytes bytes' otherwise ≡ named field
