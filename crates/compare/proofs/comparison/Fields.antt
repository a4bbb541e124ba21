-- The search for the first field that differs. Assumes nothing.
use Rattle.std.specs.Prelude.{ℕ, ◌+◌, ◌<◌, ◌≡◌, refl, true, false, not, List, ◌∷◌, get_or, length, take, drop, nat_eq}
use Rattle.std.proofs.Common.{sym, ◌∙◌, arith, add-one, length-drop, drop-cons}
use Rattle.std.specs.List.{between}
use Rattle.std.proofs.lemmas.Slice.{between_to_end}
use Rattle.std.specs.Cmp.Lexicographic.{pointwise}
use borrow.Author.Tests.{not-true, not-false}
use Rattle.script.specs.Log.{layout}
use Rattle.script.specs.Private.{widths}
use Rattle.script.specs.declared.entry.Part.{Part}
use Rattle.script.specs.declared.entry.Field.{Field}
use Rattle.compare.specs.Verdict.{alike, in_fields}
use Rattle.compare.proofs.Laws.Verdict.{bytes_alike, behind_differs}
use Rattle.compare.specs.Private.{DiffersIn}
use Rattle.compare.specs.declared.comparison.Comparison.{Comparison}

-- Two records have equal fields before the i-th, and a and b, which are left of them, differ: the search goes on there.
pub record Searching (first second : List ℕ) (i : ℕ) (a b : List ℕ) : Type 0 where
  pub room : length a ≡ widths (drop i layout)
  pub room' : length b ≡ widths (drop i layout)
  pub differ : alike a b ≡ false
  pub onward :
      (named : Field → Comparison) (c : Comparison) →
      in_fields named layout first second c ≡ in_fields named (drop i layout) a b c

module _ (first second : List ℕ) (i : ℕ) (a b : List ℕ) (s : Searching first second i a b) (table : List Part) (known : table ≡ layout) (l : i < 9) (z : Part) where
  abbrev here : Part
  here = get_or table i z

  split : drop i layout ≡ here ∷ drop (i + 1) layout
  split = rw (known, add-one i) (drop-cons layout i z l)

  placed : length a ≡ here.width + widths (drop (i + 1) layout)
  placed = s.room ∙ rw split refl

  placed' : length b ≡ here.width + widths (drop (i + 1) layout)
  placed' = s.room' ∙ rw split refl

  pub named_here :
      not (pointwise nat_eq (take here.width a) (take here.width b)) ≡ true → DiffersIn layout first second here.field
  unfolding in_fields
  named_here t =
      record { names = λ n c. s.onward n c ∙ rw (split, sym (bytes_alike (take here.width a) (take here.width b)) ∙ not-true _ t) refl }

  pub searching_on :
      not (pointwise nat_eq (take here.width a) (take here.width b)) ≡ false →
      Searching first second (i + 1) (between here.width (length a) a) (between here.width (length b) b)
  unfolding in_fields
  searching_on t =
      let same : alike (take here.width a) (take here.width b) ≡ true =
      sym (bytes_alike (take here.width a) (take here.width b)) ∙ not-false _ t in
      rw (between_to_end a here.width (length a) (omega arith), between_to_end b here.width (length b) (omega arith)) (
      record {
        room = length-drop here.width a ∙ omega (arith, placed);
        room' = length-drop here.width b ∙ omega (arith, placed');
        differ = behind_differs here.width a b (omega (arith, placed)) (omega (arith, placed')) s.differ same;
        onward = λ n c. s.onward n c ∙ rw (split, same) refl;
      })
