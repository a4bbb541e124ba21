-- What follows from the definition of a verdict. Assumes nothing.
use Rattle.std.specs.Prelude.{ℕ, zero, suc, ◌+◌, ◌*◌, ◌%◌, ◌≤◌, ◌≡◌, refl, Bool, true, false, ◌&&◌, List, [], ◌∷◌, ◌++◌, eqb, nat_eq, length, take, drop}
use Rattle.std.specs.Cmp.Lexicographic.{pointwise}
use Rattle.std.proofs.Common.{sym, ap, ◌∙◌, arith, length-drop, take-add, length-take-le, take-append-drop, eqb-true, eq-eqb, le-ltb, lt-ltb}
use Rattle.std.proofs.Math.Bool.{and-eq-true_iff}
use Rattle.std.proofs.lemmas.Bool.{false≢true, not-false}
use Rattle.std.proofs.Math.Decide.{dec_lt}
use Rattle.std.proofs.Math.Seq.{take-length}
use Rattle.devices.proofs.Laws.Cases.{tested}
use Rattle.devices.specs.Refusal.{not_refused}
use Rattle.script.specs.Format.{log, refusal}
use Rattle.script.specs.Refusal.{bad_file}
use Rattle.script.specs.Number.{number, encoded}
use Rattle.script.specs.Log.{entry_length, layout}
use Rattle.script.specs.Private.{widths}
use Rattle.script.specs.declared.entry.Field.{Field}
use Rattle.script.specs.declared.entry.Part.{Part}
use Rattle.compare.specs.Verdict.{alike, in_fields, in_records, common, partial, at_end, on_records, unreadable, verdict}
use Rattle.compare.specs.declared.verdict.Log.{Log}
use Rattle.compare.specs.declared.verdict.Log.TheVariants.{First, Second}
use Rattle.compare.specs.declared.verdict.Verdict.{Verdict}
use Rattle.compare.specs.declared.verdict.Verdict.TheVariants.{Refused, Record, Partial, Beginning, Equal}

-- Lists of bytes that are put together are alike where their parts are.
pub alike_append :
    (xs ys more others : List ℕ) → length xs ≡ length ys →
    alike (xs ++ more) (ys ++ others) ≡ (alike xs ys && alike more others)
alike_append [] [] more others e = refl
alike_append [] (y ∷ ys) more others e = absurd (omega arith)
alike_append (x ∷ xs) [] more others e = absurd (omega arith)
alike_append (x ∷ xs) (y ∷ ys) more others e =
    tested (eqb x y) (λ t. rw (t, alike_append xs ys more others (omega arith)) refl) (λ t. rw t refl)

alike_split :
    (m n : ℕ) (a b : List ℕ) → m ≤ length a → m ≤ length b →
    alike (take (m + n) a) (take (m + n) b) ≡ (alike (take m a) (take m b) && alike (take n (drop m a)) (take n (drop m b)))
alike_split m n a b h k =
    rw (take-add m n a, take-add m n b)
    (alike_append (take m a) (take m b) (take n (drop m a)) (take n (drop m b))
    (length-take-le m a h ∙ sym (length-take-le m b k)))

-- The bytes that two lists begin with, in two parts.
module _ (m n : ℕ) (a b : List ℕ) (h : m ≤ length a) (k : m ≤ length b) where
  both_alike :
      alike (take (m + n) a) (take (m + n) b) ≡ true →
      (alike (take m a) (take m b) ≡ true) × (alike (take n (drop m a)) (take n (drop m b)) ≡ true)
  both_alike e =
      (and-eq-true_iff (alike (take m a) (take m b)) (alike (take n (drop m a)) (take n (drop m b)))).0
      (sym (alike_split m n a b h k) ∙ e)

  pub rest_differs :
      alike (take (m + n) a) (take (m + n) b) ≡ false → alike (take m a) (take m b) ≡ true →
      alike (take n (drop m a)) (take n (drop m b)) ≡ false
  rest_differs e f = rw (alike_split m n a b h k, f) at e

-- Lists that differ, but not in so many bytes that they begin with, differ behind them.
pub behind_differs :
    (m : ℕ) (a b : List ℕ) → m ≤ length a → m ≤ length b → alike a b ≡ false → alike (take m a) (take m b) ≡ true →
    alike (drop m a) (drop m b) ≡ false
behind_differs m a b h k e f =
    let joined =
    alike_append (take m a) (take m b) (drop m a) (drop m b) (length-take-le m a h ∙ sym (length-take-le m b k)) in
    sym (rw (f, take-append-drop m a, take-append-drop m b, e) at joined)

-- The library's test of two lists of bytes is `alike`.
pub bytes_alike : (xs ys : List ℕ) → pointwise nat_eq xs ys ≡ alike xs ys
bytes_alike [] [] = refl
bytes_alike [] (y ∷ ys) = refl
bytes_alike (x ∷ xs) [] = refl
bytes_alike (x ∷ xs) (y ∷ ys) = rw (bytes_alike xs ys) refl

-- Where some fields are alike, none is named.
pub fields_alike :
    {A : Type 0} (named : Field → A) (ps : List Part) (a b : List ℕ) (otherwise : A) → widths ps ≤ length a →
    widths ps ≤ length b → alike (take (widths ps) a) (take (widths ps) b) ≡ true →
    in_fields named ps a b otherwise ≡ otherwise
unfolding in_fields
fields_alike named [] a b c h k e = refl
fields_alike named (p ∷ ps) a b c h k e =
    let both = both_alike p.width (widths ps) a b (omega arith) (omega arith) e in
    rw both.0
    (fields_alike named ps (drop p.width a) (drop p.width b) c (rw (length-drop p.width a) (omega arith))
    (rw (length-drop p.width b) (omega arith)) both.1)

-- Equal lists are alike, and lists that are alike are equal.
alike_self : (xs : List ℕ) → alike xs xs ≡ true
alike_self [] = refl
alike_self (x ∷ xs) = rw (eq-eqb x x refl, alike_self xs) refl

alike_equal : (xs ys : List ℕ) → alike xs ys ≡ true → xs ≡ ys
alike_equal [] [] e = refl
alike_equal [] (y ∷ ys) e = absurd (false≢true e)
alike_equal (x ∷ xs) [] e = absurd (false≢true e)
alike_equal (x ∷ xs) (y ∷ ys) e =
    let both = (and-eq-true_iff (eqb x y) (alike xs ys)).0 e in
    rw (eqb-true x y both.0, alike_equal xs ys both.1) refl

-- The records of a log do not differ from themselves.
fields_self : {A : Type 0} (named : Field → A) (ps : List Part) (a : List ℕ) (c : A) → in_fields named ps a a c ≡ c
unfolding in_fields
fields_self named [] a c = refl
fields_self named (p ∷ ps) a c = rw (alike_self (take p.width a)) (fields_self named ps (drop p.width a) c)

records_self :
    {A : Type 0} (named : ℕ → Field → A) (count n : ℕ) (a : List ℕ) (c : A) → in_records named count n a a c ≡ c
unfolding in_records
records_self named zero n a c = refl
records_self named (suc count) n a c =
    fields_self (named (suc n)) layout a (in_records named count (suc n) (drop entry_length a) (drop entry_length a) c) ∙
    records_self named count (suc n) (drop entry_length a) c

-- Where the verdict is `equal`, no record differs.
abbrev pub is_equal : Verdict → Bool
is_equal (Refused which number) = false
is_equal (Record n field) = false
is_equal (Partial which) = false
is_equal (Beginning which) = false
is_equal Equal = true

fields_equal :
    (n : ℕ) (ps : List Part) (a b : List ℕ) (v : Verdict) → widths ps ≤ length a → widths ps ≤ length b →
    in_fields (Record n) ps a b v ≡ Equal → (take (widths ps) a ≡ take (widths ps) b) × (v ≡ Equal)
unfolding in_fields
fields_equal n [] a b v h k e = (refl, e)
fields_equal n (p ∷ ps) a b v h k e =
    tested (alike (take p.width a) (take p.width b))
    (λ t.
    let rest =
    fields_equal n ps (drop p.width a) (drop p.width b) v (rw (length-drop p.width a) (omega arith))
    (rw (length-drop p.width b) (omega arith)) (rw t at e) in (
      rw (
        take-add p.width (widths ps) a,
        take-add p.width (widths ps) b,
        alike_equal (take p.width a) (take p.width b) t,
        rest.0,
      ) refl,
      rest.1,
    ))
    (λ t. absurd (false≢true (ap is_equal (rw t at e))))

records_equal :
    (count n : ℕ) (a b : List ℕ) (v : Verdict) → entry_length * count ≤ length a → entry_length * count ≤ length b →
    in_records Record count n a b v ≡ Equal → (take (entry_length * count) a ≡ take (entry_length * count) b) × (v ≡ Equal)
unfolding in_records
records_equal zero n a b v h k e = (refl, e)
records_equal (suc count) n a b v h k e =
    let more : entry_length * suc count ≡ entry_length + entry_length * count = omega arith in
    let both :
    (l : List ℕ) →
    take (entry_length * suc count) l ≡ take entry_length l ++ take (entry_length * count) (drop entry_length l) =
    λ l. rw more (take-add entry_length (entry_length * count) l) in
    let one =
    fields_equal (suc n) layout a b (in_records Record count (suc n) (drop entry_length a) (drop entry_length b) v)
    (omega arith) (omega arith) e in
    let others =
    records_equal count (suc n) (drop entry_length a) (drop entry_length b) v (rw (length-drop entry_length a) (omega arith))
    (rw (length-drop entry_length b) (omega arith)) one.1 in (
      both a ∙ ap (λ (l : List ℕ). l ++ take (entry_length * count) (drop entry_length a)) one.0 ∙
          ap (λ (l : List ℕ). take entry_length b ++ l) others.0 ∙ sym (both b),
      others.1,
    )

-- Of two lists of whole records.
module _ (a b : List ℕ) (h : partial a ≡ false) (k : partial b ≡ false) where
  lengths_equal : at_end a b ≡ Equal → length a ≡ length b
  lengths_equal e =
      elim (dec_lt (length a) (length b)) [
        | yes l ↦ absurd (false≢true (ap is_equal (rw (h, k, lt-ltb (length a) (length b) l) at e)))
        | no l ↦
            elim (dec_lt (length b) (length a)) [
              | yes m ↦
                  absurd
                  (false≢true
                  (ap is_equal (rw (h, k, le-ltb (length a) (length b) (omega arith), lt-ltb (length b) (length a) m) at e)))
              | no m ↦ omega arith
            ]
      ]

  pub whole_records_equal : on_records a b ≡ Equal → a ≡ b
  whole_records_equal e =
      let both = records_equal (common a b) 0 a b (at_end a b) (omega arith) (omega arith) e in
      let long = lengths_equal both.1 in
      let none : length a % entry_length ≡ 0 = eqb-true (length a % entry_length) 0 (not-false _ h) in
      let all : entry_length * common a b ≡ length a = omega arith in
      let first : take (entry_length * common a b) a ≡ a = rw all (take-length a) in
      let second : take (entry_length * common a b) b ≡ b = rw (all, long) (take-length b) in
      sym first ∙ both.0 ∙ second

pub self_equal : (a : List ℕ) → partial a ≡ false → on_records a a ≡ Equal
self_equal a h = records_self Record (common a a) 0 a (at_end a a) ∙ rw (h, le-ltb (length a) (length a) (omega arith)) refl

-- A log that counts as empty: the first, whatever the second is, and the second where the first is accepted.
pub unreadable_refused : (which : Log) → Refused which bad_file ≡ unreadable which
unfolding encoded number
unreadable_refused First = refl
unreadable_refused Second = refl

pub unreadable_first : (second : List ℕ) → verdict [] second ≡ unreadable First
unreadable_first second = refl

pub unreadable_second : (first : List ℕ) → refusal log first ≡ not_refused → verdict first [] ≡ unreadable Second
unreadable_second first e = rw e (unreadable_refused Second)
