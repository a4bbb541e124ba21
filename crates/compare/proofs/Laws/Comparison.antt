-- What follows from the definition of a comparison by pieces. Assumes nothing.
use Prim.Native.Nat.{ℕ, zero, suc, ◌+◌, ◌-◌, ◌*◌, ◌%◌, ◌≤◌, ◌<◌, min}
use Rattle.std.specs.Prelude.{◌≡◌, eqb, ltb, length, take, drop}
use Rattle.std.proofs.Math.Path.{refl, sym}
use Rattle.std.proofs.Common.{ap, ◌∙◌, zero-add, length-append, length-drop, take-take, le-ltb, lt-ltb}
use Rattle.std.proofs.lemmas.Bool.{false≢true}
use mathlib.Core.List.{List, [], ◌∷◌, ◌++◌}
use native.Mathlib.Omega.{arith}
use Rattle.std.proofs.Math.Decide.{dec_lt}
use Rattle.std.proofs.Math.Nat.{add-zero, add-suc, suc-add}
use Rattle.std.proofs.Math.Seq.{drop-drop, take-append-le, drop-append-le}
use Rattle.devices.specs.Refusal.{not_refused}
use Rattle.devices.proofs.Laws.Cases.{chosen, tested}
use Rattle.script.specs.Format.{log, header_length, refusal}
use Rattle.script.proofs.Laws.Format.{refusal_front}
use Rattle.script.specs.Log.{entry_length, layout}
use Rattle.script.specs.Private.{widths}
use Rattle.script.specs.declared.entry.Field.{Field}
use Rattle.script.specs.declared.entry.Part.{Part}
use Rattle.compare.specs.Verdict.{alike, in_fields, in_records, whole, common, partial, at_end, on_records, judged, verdict}
use Rattle.compare.proofs.Laws.Verdict.{is_equal}
use Rattle.compare.specs.Comparison.{largest, saturated, differing, refused_as, begun, next, taken, taken_by, decided, end, surplus}
use Rattle.compare.specs.declared.verdict.Log.TheVariants.{First, Second}
use Rattle.compare.specs.declared.verdict.Verdict.{Verdict}
use Rattle.compare.specs.declared.verdict.Verdict.TheVariants.{Refused, Record, Partial, Beginning, Equal}
use Rattle.compare.specs.declared.comparison.Comparison.{Comparison}
use Rattle.compare.specs.declared.comparison.Comparison.TheVariants.{Undecided, Decided}

-- What is made of the answer may be made of what is named, and of what is otherwise.
module _ {A B : Type 0} (f : A → B) where
  fields_map :
      (named : Field → A) (ps : List Part) (a b : List ℕ) (otherwise : A) →
      f (in_fields named ps a b otherwise) ≡ in_fields (λ (x : Field). f (named x)) ps a b (f otherwise)
  unfolding in_fields
  fields_map named [] a b c = refl
  fields_map named (p ∷ ps) a b c =
      tested (alike (take p.width a) (take p.width b))
      (λ t. rw t (fields_map named ps (drop p.width a) (drop p.width b) c)) (λ t. rw t refl)

  records_map :
      (named : ℕ → Field → A) (count n : ℕ) (a b : List ℕ) (otherwise : A) →
      f (in_records named count n a b otherwise) ≡ in_records (λ (m : ℕ) (x : Field). f (named m x)) count n a b (f otherwise)
  unfolding in_records
  records_map named zero n a b c = refl
  records_map named (suc count) n a b c =
      fields_map (named (suc n)) layout a b (in_records named count (suc n) (drop entry_length a) (drop entry_length b) c) ∙
      rw (records_map named count (suc n) (drop entry_length a) (drop entry_length b) c) refl

  judged_map :
      (refused : ℕ → A) (file : List ℕ) (otherwise : A) →
      f (judged refused file otherwise) ≡ judged (λ (n : ℕ). f (refused n)) file (f otherwise)
  judged_map refused file c = tested (eqb (refusal log file) not_refused) (λ t. rw t refl) (λ t. rw t refl)

module _ {A : Type 0} where
  -- What is behind some bytes is not looked at while they are compared.
  fields_front :
      (named : Field → A) (ps : List Part) (a b more others : List ℕ) (c : A) → widths ps ≤ length a →
      widths ps ≤ length b → in_fields named ps (a ++ more) (b ++ others) c ≡ in_fields named ps a b c
  unfolding in_fields
  fields_front named [] a b more others c h k = refl
  fields_front named (p ∷ ps) a b more others c h k =
      rw (
        take-append-le p.width a more (omega arith),
        take-append-le p.width b others (omega arith),
        drop-append-le p.width a more (omega arith),
        drop-append-le p.width b others (omega arith),
        fields_front named ps (drop p.width a) (drop p.width b) more others c
            (rw (length-drop p.width a) (omega arith)) (rw (length-drop p.width b) (omega arith)),
      ) refl

  records_front :
      (named : ℕ → Field → A) (count n : ℕ) (a b more others : List ℕ) (c : A) → entry_length * count ≤ length a →
      entry_length * count ≤ length b → in_records named count n (a ++ more) (b ++ others) c ≡ in_records named count n a b c
  unfolding in_records
  records_front named zero n a b more others c h k = refl
  records_front named (suc count) n a b more others c h k =
      rw (
        drop-append-le entry_length a more (omega arith),
        drop-append-le entry_length b others (omega arith),
        records_front named count (suc n) (drop entry_length a) (drop entry_length b) more others c
            (rw (length-drop entry_length a) (omega arith)) (rw (length-drop entry_length b) (omega arith)),
      )
      (fields_front (named (suc n)) layout a b more others
      (in_records named count (suc n) (drop entry_length a) (drop entry_length b) c) (omega arith) (omega arith))

  -- Records in two parts: those of the second part come after those of the first.
  records_join :
      (named : ℕ → Field → A) (m k n : ℕ) (a b : List ℕ) (c : A) →
      in_records named (m + k) n a b c ≡
      in_records named m n a b (in_records named k (n + m) (drop (entry_length * m) a) (drop (entry_length * m) b) c)
  unfolding in_records
  records_join named zero k n a b c = rw (zero-add k, add-zero n) refl
  records_join named (suc m) k n a b c =
      let place : entry_length * suc m ≡ entry_length + entry_length * m = omega arith in
      rw (
        suc-add m k,
        records_join named m k (suc n) (drop entry_length a) (drop entry_length b) c,
        place,
        ← drop-drop (entry_length * m) entry_length a,
        ← drop-drop (entry_length * m) entry_length b,
        add-suc n m,
        suc-add n m,
      ) refl

  -- What names each field, or each record, alike gives the same.
  fields_same :
      (named named' : Field → A) (ps : List Part) (a b : List ℕ) (c d : A) → ((x : Field) → named x ≡ named' x) → c ≡ d →
      in_fields named ps a b c ≡ in_fields named' ps a b d
  unfolding in_fields
  fields_same named named' [] a b c d e f = f
  fields_same named named' (p ∷ ps) a b c d e f =
      rw (fields_same named named' ps (drop p.width a) (drop p.width b) c d e f, e p.field) refl

  records_same :
      (named named' : ℕ → Field → A) (count m n : ℕ) (a b : List ℕ) (c : A) →
      ((k : ℕ) → k < count → (x : Field) → named (suc (m + k)) x ≡ named' (suc (n + k)) x) →
      in_records named count m a b c ≡ in_records named' count n a b c
  unfolding in_records
  records_same named named' zero m n a b c e = refl
  records_same named named' (suc count) m n a b c e =
      fields_same (named (suc m)) (named' (suc n)) layout a b
      (in_records named count (suc m) (drop entry_length a) (drop entry_length b) c)
      (in_records named' count (suc n) (drop entry_length a) (drop entry_length b) c)
      (λ x. rw (add-zero m, add-zero n) at (e 0 (omega arith) x))
      (records_same named named' count (suc m) (suc n) (drop entry_length a) (drop entry_length b) c
      (λ k l x. rw (add-suc m k, add-suc n k, ← suc-add m k, ← suc-add n k) at (e (suc k) (omega arith) x)))

-- The verdict that names a record, with the code's count. A count that stays at the largest number gives the same.
abbrev capped : ℕ → Field → Verdict
capped n field = saturated (Record n field)

records_capped :
    (count n : ℕ) (a b : List ℕ) (v : Verdict) →
    in_records capped count (min n largest) a b v ≡ in_records capped count n a b v
records_capped count n a b v =
    records_same capped capped count (min n largest) n a b v
    (λ k l x. let same : min (suc (min n largest + k)) largest ≡ min (suc (n + k)) largest = omega arith in rw same refl)

-- What an undecided comparison comes to.
end_undecided :
    (n : ℕ) (a b : List ℕ) → end (Undecided n) a b ≡ in_records capped (common a b) n a b (at_end a b)
unfolding next
end_undecided n a b =
    records_map (λ (c : Comparison). decided c (at_end a b)) differing (common a b) n a b
    (Undecided (min (n + common a b) largest))

-- Equal numbers of bytes in front do not count at the end.
fewer : (m n x : ℕ) → x ≤ m → x ≤ n → ltb (m - x) (n - x) ≡ ltb m n
fewer m n x h k =
    elim (dec_lt m n) [
      | yes l ↦ rw (lt-ltb m n l) (lt-ltb (m - x) (n - x) (omega arith))
      | no l ↦ rw (le-ltb m n (omega arith)) (le-ltb (m - x) (n - x) (omega arith))
    ]

partial_drop : (k : ℕ) (a : List ℕ) → entry_length * k ≤ length a → partial (drop (entry_length * k) a) ≡ partial a
partial_drop k a h =
    let rest : (length a - entry_length * k) % entry_length ≡ length a % entry_length = omega arith in
    rw (length-drop (entry_length * k) a, rest) refl

at_end_drop :
    (k : ℕ) (a b : List ℕ) → entry_length * k ≤ length a → entry_length * k ≤ length b →
    at_end (drop (entry_length * k) a) (drop (entry_length * k) b) ≡ at_end a b
at_end_drop k a b h j =
    rw (
      partial_drop k a h,
      partial_drop k b j,
      length-drop (entry_length * k) a,
      length-drop (entry_length * k) b,
      fewer (length a) (length b) (entry_length * k) h j,
      fewer (length b) (length a) (entry_length * k) j h,
    ) refl

-- The verdict at the end does not change by a step. `next`: the records that both pieces have come before the others.
module _ (n : ℕ) (a b more others : List ℕ) where
  abbrev k : ℕ
  k = common a b

  abbrev rest : List ℕ
  rest = drop (entry_length * k) (a ++ more)

  abbrev rest' : List ℕ
  rest' = drop (entry_length * k) (b ++ others)

  within_first : entry_length * k ≤ length (a ++ more)
  within_first = rw length-append (omega arith)

  within_second : entry_length * k ≤ length (b ++ others)
  within_second = rw length-append (omega arith)

  both_parts : common (a ++ more) (b ++ others) ≡ k + common rest rest'
  both_parts =
      rw (length-drop (entry_length * k) (a ++ more), length-drop (entry_length * k) (b ++ others))
      (omega (arith, within_first, within_second))

  abbrev afterwards : Verdict
  afterwards = end (Undecided (min (n + k) largest)) rest rest'

  in_two : end (Undecided n) (a ++ more) (b ++ others) ≡ in_records capped k n a b afterwards
  in_two =
      end_undecided n (a ++ more) (b ++ others) ∙
      rw (
        both_parts,
        records_join capped k (common rest rest') n (a ++ more) (b ++ others) (at_end (a ++ more) (b ++ others)),
        ← at_end_drop k (a ++ more) (b ++ others) within_first within_second,
        ← records_capped (common rest rest') (n + k) rest rest' (at_end rest rest'),
        ← end_undecided (min (n + k) largest) rest rest',
      ) (records_front capped k n a b more others afterwards (omega arith) (omega arith))

  -- the verdict by what the pieces came to
  abbrev settled : Comparison → Verdict
  settled (Undecided p) = end (Undecided p) rest rest'
  settled (Decided v) = v

  by_taken :
      (c : Comparison) →
      (let t = taken_by c k in
      end c (drop t (a ++ more)) (drop t (b ++ others)) ≡ settled c)
  unfolding next
  by_taken (Undecided p) = refl
  by_taken (Decided v) = refl

  undecided_step :
      (let c = next (Undecided n) a b in
      let t = taken_by c k in
      end (Undecided n) (a ++ more) (b ++ others) ≡ end c (drop t (a ++ more)) (drop t (b ++ others)))
  unfolding next
  undecided_step =
      in_two ∙
      sym
      (by_taken (next (Undecided n) a b) ∙
      records_map settled differing k n a b (Undecided (min (n + k) largest)))

pub next_step :
    (c : Comparison) (a b more others : List ℕ) →
    (let t = taken c a b in
    end c (a ++ more) (b ++ others) ≡ end (next c a b) (drop t (a ++ more)) (drop t (b ++ others)))
unfolding next
next_step (Undecided n) a b more others = undecided_step n a b more others
next_step (Decided v) a b more others = refl

-- Where less than a record is left of one log.
end_short : (n : ℕ) (a b : List ℕ) → common a b ≡ 0 → end (Undecided n) a b ≡ at_end a b
unfolding in_records
end_short n a b e = end_undecided n a b ∙ rw e refl

-- `surplus`: of the other log there is a record more, and what is behind its last one.
module _ (j : ℕ) (a b : List ℕ) (h : length a < entry_length) (l : entry_length * (j + 1) ≤ length b) where
  rest_of : length (drop (entry_length * j) b) ≡ length b - entry_length * j
  rest_of = length-drop (entry_length * j) b

  second_over : at_end a b ≡ at_end a (drop (entry_length * j) b)
  second_over =
      rw (
        partial_drop j b (omega arith),
        lt-ltb (length a) (length b) (omega arith),
        lt-ltb (length a) (length (drop (entry_length * j) b)) (omega (arith, rest_of)),
      ) refl

  first_over : at_end b a ≡ at_end (drop (entry_length * j) b) a
  first_over =
      rw (
        partial_drop j b (omega arith),
        le-ltb (length b) (length a) (omega arith),
        le-ltb (length (drop (entry_length * j) b)) (length a) (omega (arith, rest_of)),
        lt-ltb (length a) (length b) (omega arith),
        lt-ltb (length a) (length (drop (entry_length * j) b)) (omega (arith, rest_of)),
      ) refl

module _ (P : ℕ → Type 0) (left piece more : List ℕ) where
  -- What holds for nothing passed over, and for whole records behind which there is one more, holds for the surplus.
  by_surplus :
      P 0 →
      (length left < entry_length → (j : ℕ) → entry_length * (j + 1) ≤ length (piece ++ more) → P (entry_length * j)) →
      P (surplus left piece)
  by_surplus none some =
      elim (dec_lt (length left) entry_length) [
        | yes h ↦
            rw (lt-ltb (length left) entry_length h)
            (elim (dec_lt 0 (whole piece)) [
              | yes l ↦ some h (whole piece - 1) (rw length-append (omega arith))
              | no l ↦ let zeros : entry_length * (whole piece - 1) ≡ 0 = omega arith in rw zeros none
            ])
        | no h ↦ rw (le-ltb (length left) entry_length (omega arith)) none
      ]

pub second_surplus :
    (c : Comparison) (a piece more : List ℕ) →
    end c a (piece ++ more) ≡ end c a (drop (surplus a piece) (piece ++ more))
unfolding next
second_surplus (Undecided n) a piece more =
    by_surplus (λ (x : ℕ). end (Undecided n) a (piece ++ more) ≡ end (Undecided n) a (drop x (piece ++ more))) a piece more
    refl
    (λ h j l.
    end_short n a (piece ++ more) (omega arith) ∙ second_over j a (piece ++ more) h l ∙
    sym (end_short n a (drop (entry_length * j) (piece ++ more)) (omega arith)))
second_surplus (Decided v) a piece more = refl

pub first_surplus :
    (c : Comparison) (a piece more : List ℕ) →
    end c (piece ++ more) a ≡ end c (drop (surplus a piece) (piece ++ more)) a
unfolding next
first_surplus (Undecided n) a piece more =
    by_surplus (λ (x : ℕ). end (Undecided n) (piece ++ more) a ≡ end (Undecided n) (drop x (piece ++ more)) a) a piece more
    refl
    (λ h j l.
    end_short n (piece ++ more) a (omega arith) ∙ first_over j a (piece ++ more) h l ∙
    sym (end_short n (drop (entry_length * j) (piece ++ more)) a (omega arith)))
first_surplus (Decided v) a piece more = refl

-- At the end of two logs that were begun, it is the verdict, with the code's count.
saturated_at_end : (a b : List ℕ) → saturated (at_end a b) ≡ at_end a b
saturated_at_end a b =
    tested (partial a) (λ t. rw t refl)
    (λ t.
    rw t
    (tested (partial b) (λ u. rw u refl)
    (λ u.
    rw u
    (tested (ltb (length a) (length b)) (λ w. rw w refl)
    (λ w. rw w (tested (ltb (length b) (length a)) (λ x. rw x refl) (λ x. rw x refl)))))))

header_of : (n : ℕ) (file : List ℕ) → header_length ≤ n → refusal log (take n file) ≡ refusal log file
header_of n file h =
    sym (refusal_front log (take n file)) ∙ ap (refusal log) (take-take header_length n file h) ∙ refusal_front log file

saturated_verdict :
    (first second : List ℕ) →
    (let records = drop header_length first in
    let records' = drop header_length second in
    saturated (verdict first second) ≡
    judged (Refused First) first
    (judged (Refused Second) second (in_records capped (common records records') 0 records records' (at_end records records'))))
saturated_verdict first second =
    let records = drop header_length first in
    let records' = drop header_length second in
    judged_map saturated (Refused First) first (judged (Refused Second) second (on_records records records')) ∙
    rw (
      judged_map saturated (Refused Second) second (on_records records records'),
      records_map saturated Record (common records records') 0 records records' (at_end records records'),
      saturated_at_end records records',
    ) refl

pub begun_end :
    (first second : List ℕ) (m n : ℕ) → header_length ≤ m → header_length ≤ n →
    end (begun (take m first) (take n second)) (drop header_length first) (drop header_length second) ≡
    saturated (verdict first second)
unfolding next
begun_end first second m n h k =
    let records = drop header_length first in
    let records' = drop header_length second in
    let ends : Comparison → Verdict = λ (c : Comparison). end c records records' in
    rw (header_of m first h, header_of n second k)
    (judged_map ends (refused_as First) first (judged (refused_as Second) second (Undecided 0)) ∙
    rw (judged_map ends (refused_as Second) second (Undecided 0), end_undecided 0 records records')
    (sym (saturated_verdict first second)))

-- The count is exact as far as 64 bits go.
records_exact :
    (count n : ℕ) (a b : List ℕ) (v : Verdict) → n + count ≤ largest →
    in_records capped count n a b v ≡ in_records Record count n a b v
records_exact count n a b v h =
    records_same capped Record count n n a b v
    (λ k l x. let exact : min (suc (n + k)) largest ≡ suc (n + k) = omega arith in rw exact refl)

pub verdict_exact :
    (first second : List ℕ) → length first < entry_length * (largest + 1) →
    saturated (verdict first second) ≡ verdict first second
verdict_exact first second h =
    let records = drop header_length first in
    let records' = drop header_length second in
    let few : 0 + common records records' ≤ largest = rw (length-drop header_length first) (omega arith) in
    saturated_verdict first second ∙
    rw (records_exact (common records records') 0 records records' (at_end records records') few) refl

-- No more is taken, or passed over, than a piece has.
taken_within :
    (c : Comparison) (a b : List ℕ) → (taken_by c (common a b) ≤ length a) × (taken_by c (common a b) ≤ length b)
taken_within (Undecided n) a b = (omega arith, omega arith)
taken_within (Decided v) a b = (omega arith, omega arith)

pub taken_first : (c : Comparison) (a b : List ℕ) → taken c a b ≤ length a
taken_first c a b = (taken_within (next c a b) a b).0

pub taken_second : (c : Comparison) (a b : List ℕ) → taken c a b ≤ length b
taken_second c a b = (taken_within (next c a b) a b).1

pub surplus_within : (left piece : List ℕ) → surplus left piece ≤ length piece
surplus_within left piece =
    chosen (λ b (n : ℕ). n ≤ length piece) (ltb (length left) entry_length) (entry_length * (whole piece - 1)) 0 (omega arith)
    (omega arith)

-- The count does not make a verdict `equal`.
pub saturated_equal : (v : Verdict) → saturated v ≡ Equal → v ≡ Equal
saturated_equal (Refused which number) e = e
saturated_equal (Record n field) e = absurd (false≢true (ap is_equal e))
saturated_equal (Partial which) e = e
saturated_equal (Beginning which) e = e
saturated_equal Equal e = refl
