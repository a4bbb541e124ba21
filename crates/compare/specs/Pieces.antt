-- How two logs are given to a comparison, piece by piece: the words of the claims.
use Rattle.std.specs.Prelude.{ℕ, ◌≤◌, ◌≡◌, List, ◌++◌, take, drop}
use Rattle.script.specs.Format.{header_length}
use Rattle.compare.specs.Comparison.{begun, next, taken, end, surplus}
use Rattle.compare.specs.declared.comparison.Comparison.{Comparison}
use Rattle.compare.specs.declared.comparison.Comparison.TheVariants.{Decided}
use Rattle.compare.specs.declared.comparison.Step.{Step}
use Rattle.compare.specs.declared.verdict.Verdict.{Verdict}

-- A comparison comes to a verdict over what is left of each log, call by call; each call meets its contract.
-- * `next_pieces`: `next` is given a piece of each, anything that what is left of that log begins with, an empty list too, each
--   cut in its own way and anywhere. What it takes is left no more.
-- * `known`: the verdict is known, and nothing more is given.
-- * `first_ended`, `second_ended`: a log is given to its end, and bytes of the other are passed over by `surplus`.
-- * `at_the_end`: `end` is given all that is left of each.
pub data ComesTo : Comparison → (records records' : List ℕ) → Verdict → Type 0 where
  next_pieces :
      (piece more piece' more' : List ℕ) {c : Comparison} {r : Step} {v : Verdict} →
      r.comparison ≡ next c piece piece' → r.taken ≡ taken c piece piece' →
      ComesTo r.comparison (drop r.taken (piece ++ more)) (drop r.taken (piece' ++ more')) v →
      ComesTo c (piece ++ more) (piece' ++ more') v
  known : {records records' : List ℕ} {v : Verdict} → ComesTo (Decided v) records records' v
  first_ended :
      (records piece more : List ℕ) {c : Comparison} {n : ℕ} {v : Verdict} → n ≡ surplus records piece →
      ComesTo c records (drop n (piece ++ more)) v → ComesTo c records (piece ++ more) v
  second_ended :
      (piece more records' : List ℕ) {c : Comparison} {n : ℕ} {v : Verdict} → n ≡ surplus records' piece →
      ComesTo c (drop n (piece ++ more)) records' v → ComesTo c (piece ++ more) records' v
  at_the_end : {c : Comparison} {records records' : List ℕ} {v : Verdict} → v ≡ end c records records' → ComesTo c records records' v

-- Two logs are compared: `begin` is given the first bytes of each, as many as a header has or more, or all where there are
-- fewer, and the comparison goes on behind the headers.
pub record Compared (first second : List ℕ) (v : Verdict) : Type 0 where
  pub given : ℕ
  pub given' : ℕ
  pub header : header_length ≤ given
  pub header' : header_length ≤ given'
  pub start : Comparison
  pub begins : start ≡ begun (take given first) (take given' second)
  pub goes : ComesTo start (drop header_length first) (drop header_length second) v
