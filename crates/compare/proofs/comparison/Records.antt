-- Records compared one after the other. Assumes nothing.
use Rattle.std.specs.Prelude.{ℕ, zero, suc, ◌+◌, ◌*◌, ◌≤◌, ◌<◌, ◌≡◌, refl, min, true, false, List, [], ◌∷◌, get_or, length, take, drop}
use Rattle.std.proofs.Common.{sym, ◌∙◌, arith, add-zero, length-drop, take-take}
use Rattle.std.proofs.lemmas.List.{drop-take}
use Rattle.std.specs.Simd.{first_chunks}
use Rattle.script.specs.Log.{entry_length, layout}
use Rattle.script.specs.Private.{widths}
use Rattle.script.specs.declared.entry.Part.{Part}
use Rattle.script.specs.declared.entry.Field.{Field}
use Rattle.compare.specs.Verdict.{alike, in_fields, in_records, whole, common}
use Rattle.compare.proofs.Laws.Verdict.{bytes_alike, fields_alike}
use Rattle.compare.specs.Comparison.{largest, differing, next, taken}
use Rattle.compare.specs.Private.{equal_at, EqualBelow, DifferAt, DiffersIn}
use Rattle.compare.specs.declared.verdict.Verdict.TheVariants.{Record}
use Rattle.compare.specs.declared.comparison.Comparison.{Comparison}
use Rattle.compare.specs.declared.comparison.Comparison.TheVariants.{Undecided, Decided}

-- Fields that the bytes begin with are all that is compared of them.
fields_front :
    (named : Field → Comparison) (ps : List Part) (a b : List ℕ) (c : Comparison) →
    in_fields named ps (take (widths ps) a) (take (widths ps) b) c ≡ in_fields named ps a b c
unfolding in_fields
fields_front named [] a b c = refl
fields_front named (p ∷ ps) a b c =
    rw (
      take-take p.width (p.width + widths ps) a (omega arith),
      take-take p.width (p.width + widths ps) b (omega arith),
      drop-take p.width (widths ps) a,
      drop-take p.width (widths ps) b,
      fields_front named ps (drop p.width a) (drop p.width b) c,
    ) refl

-- Of a and b, the first `count` records, which follow n that are equal: none differs, or the j-th is the first that does.
module _ (named : ℕ → Field → Comparison) (c : Comparison) where
  one_equal :
      (count p q n : ℕ) (a b : List ℕ) → entry_length ≤ length a → entry_length ≤ length b →
      equal_at (first_chunks entry_length (suc p) a) (first_chunks entry_length (suc q) b) 0 ≡ true →
      in_records named (suc count) n a b c ≡ in_records named count (suc n) (drop entry_length a) (drop entry_length b) c
  unfolding in_records
  one_equal count p q n a b h k e =
      fields_alike (named (suc n)) layout a b
      (in_records named count (suc n) (drop entry_length a) (drop entry_length b) c) h k
      (sym (bytes_alike (take entry_length a) (take entry_length b)) ∙ e)

  none_differs :
      (count p q n : ℕ) (a b : List ℕ) → count ≤ p → count ≤ q → entry_length * p ≤ length a → entry_length * q ≤ length b →
      EqualBelow count (first_chunks entry_length p a) (first_chunks entry_length q b) → in_records named count n a b c ≡ c
  unfolding in_records
  none_differs zero p q n a b l m h k e = refl
  none_differs (suc count) zero q n a b l m h k e = absurd (omega arith)
  none_differs (suc count) (suc p) zero n a b l m h k e = absurd (omega arith)
  none_differs (suc count) (suc p) (suc q) n a b l m h k e =
      one_equal count p q n a b (omega arith) (omega arith) (e 0 (omega arith)) ∙
      none_differs count p q (suc n) (drop entry_length a) (drop entry_length b) (omega arith) (omega arith)
      (rw (length-drop entry_length a) (omega arith)) (rw (length-drop entry_length b) (omega arith))
      (λ i below. e (suc i) (omega arith))

  first_differs :
      (count j p q n : ℕ) (field : Field) (a b : List ℕ) → j < count → count ≤ p → count ≤ q → entry_length * p ≤ length a →
      entry_length * q ≤ length b → EqualBelow j (first_chunks entry_length p a) (first_chunks entry_length q b) →
      DiffersIn layout (get_or (first_chunks entry_length p a) j []) (get_or (first_chunks entry_length q b) j []) field →
      in_records named count n a b c ≡ named (suc (n + j)) field
  unfolding in_records
  first_differs zero j p q n field a b f l m h k e d = absurd (omega arith)
  first_differs (suc count) j zero q n field a b f l m h k e d = absurd (omega arith)
  first_differs (suc count) j (suc p) zero n field a b f l m h k e d = absurd (omega arith)
  first_differs (suc count) zero (suc p) (suc q) n field a b f l m h k e d =
      let rest = in_records named count (suc n) (drop entry_length a) (drop entry_length b) c in
      sym (fields_front (named (suc n)) layout a b rest) ∙ d.names (named (suc n)) rest ∙ rw (add-zero n) refl
  first_differs (suc count) (suc j) (suc p) (suc q) n field a b f l m h k e d =
      let number : suc (suc n + j) ≡ suc (n + suc j) = omega arith in
      one_equal count p q n a b (omega arith) (omega arith) (e 0 (omega arith)) ∙
      first_differs count j p q (suc n) field (drop entry_length a) (drop entry_length b) (omega arith) (omega arith) (omega arith)
      (rw (length-drop entry_length a) (omega arith)) (rw (length-drop entry_length b) (omega arith))
      (λ i below. e (suc i) (omega arith)) d ∙
      rw number refl

-- What a piece of each log comes to: a difference, or all that both have.
module _
    (before count : ℕ) (a b : List ℕ) (xs ys : List (List ℕ)) (known : count ≡ common a b)
    (e : xs ≡ first_chunks entry_length (whole a) a) (f : ys ≡ first_chunks entry_length (whole b) b) where
  after_all : Comparison
  after_all = Undecided (min (before + count) largest)

  pub differ_there : (j : ℕ) → DifferAt count xs ys j → alike (get_or xs j []) (get_or ys j []) ≡ false
  differ_there j w = sym (bytes_alike (get_or xs j []) (get_or ys j [])) ∙ w.2

  module _
      (j : ℕ) (w : DifferAt count xs ys j) (field : Field) (d : DiffersIn layout (get_or xs j []) (get_or ys j []) field) where
    named : next (Undecided before) a b ≡ differing (before + (j + 1)) field
    unfolding next after_all
    named =
        let number : suc (before + j) ≡ before + (j + 1) = omega arith in
        rw (← known)
        (first_differs differing after_all count j (whole a) (whole b) before field a b w.0 (omega arith) (omega arith)
        (omega arith) (omega arith) (rw (e, f) at w.1) (rw (e, f) at d) ∙
        rw number refl)

    pub difference : (n : ℕ) → n ≡ min (before + (j + 1)) largest → Decided (Record n field) ≡ next (Undecided before) a b
    difference n l = rw (named, l) refl

    pub none_taken : 0 ≡ taken (Undecided before) a b
    none_taken = rw named refl

  module _ (w : EqualBelow count xs ys) where
    goes_on : next (Undecided before) a b ≡ Undecided (min (before + count) largest)
    unfolding next after_all
    goes_on =
        rw (← known)
        (none_differs differing after_all count (whole a) (whole b) before a b (omega arith) (omega arith) (omega arith)
        (omega arith) (rw (e, f) at w))

    pub still_undecided : (n : ℕ) → n ≡ min (before + count) largest → Undecided n ≡ next (Undecided before) a b
    still_undecided n l = rw (goes_on, l) refl

    pub all_taken : entry_length * count ≡ taken (Undecided before) a b
    all_taken = rw (goes_on, known) refl

pub ruleset records = (differ_there, difference, none_taken, still_undecided, all_taken)
