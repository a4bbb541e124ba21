-- What a call writes into a buffer that it is lent: paper 01, "Refusal numbers".
use Rattle.std.specs.Prelude.{ℕ, ◌+◌, List, ◌++◌, length, take, drop}

-- Some bytes are written from place i on. "Lent places behind what a call writes stay", and so do those before it.
unfoldable pub wrote : List ℕ → ℕ → List ℕ → List ℕ
wrote l i vs = take i l ++ (vs ++ drop (i + length vs) l)
