-- The slow run of a list of calls of which some advances are cut. Assumes nothing.
use Rattle.std.specs.Prelude.{ℕ, ◌+◌, ◌≡◌, refl, true, List, [], ◌∷◌, map, length}
use Rattle.std.proofs.Common.{sym, ap, ◌∙◌, add-zero}
use Rattle.std.proofs.lemmas.List.{length-map}
use Rattle.devices.proofs.Laws.Cases.{tested}
use Rattle.bus.specs.Machine.{Machine, Answer, well_formed}
use Rattle.bus.specs.Time as time
use Rattle.bus.proofs.Laws.Time.{advance_cut}
use Rattle.bus.specs.Call.{answer}
use Rattle.bus.proofs.Laws.Call.{advance_well, ill_refused, answer_keeps}
use Rattle.bus.specs.SlowRun.{answers, after}
use Rattle.bus.proofs.Laws.SlowRun.{answers_append, after_append, length_answers}
use Rattle.bus.specs.Cuts as cuts
use Rattle.bus.specs.Cuts.{Item, kept, cut, total, uncut_calls, cut_calls, joined, all_joined, together, Rejoined}
use Rattle.bus.specs.declared.machine.Call.TheVariants.{Advance}

-- An advance of 0 changes nothing.
advance_none : (m : Machine) → (answer (Advance 0) m).machine ≡ m
unfolding time.advance
advance_none m =
    tested (well_formed m) (λ w. rw (advance_well m w 0) refl) (λ ill. rw (ill_refused (Advance 0) m ill) refl)

-- An advance in two.
advance_joined :
    (a b : ℕ) (m : Machine) →
    answer (Advance (a + b)) m ≡ joined (answer (Advance a) m) (answer (Advance b) (answer (Advance a) m).machine)
advance_joined a b m =
    tested (well_formed m)
    (λ w.
    let first = advance_well m w a in
    let still : well_formed (time.advance a m).machine ≡ true =
    ap (λ (x : Answer). well_formed x.machine) (sym first) ∙ answer_keeps (Advance a) m ∙ w in
    rw (
      first,
      advance_well (time.advance a m).machine still b,
      advance_well m w (a + b),
      advance_cut a b m,
    )
    refl)
    (λ ill.
    rw (
      ill_refused (Advance a) m ill,
      ill_refused (Advance b) m ill,
      ill_refused (Advance (a + b)) m ill,
    )
    refl)

-- An advance in spans: their answers put together, and the machine after them.
spans_joined :
    (span : ℕ) (spans : List ℕ) (m : Machine) →
    all_joined (answer (Advance span) m) (answers (map Advance spans) (answer (Advance span) m).machine) ≡
    answer (Advance (span + total spans)) m
spans_joined span [] m = rw add-zero refl
spans_joined span (next ∷ spans) m =
    ap (joined (answer (Advance span) m)) (spans_joined next spans (answer (Advance span) m).machine) ∙
    sym (advance_joined span (next + total spans) m)

spans_together : (spans : List ℕ) (m : Machine) → together m (answers (map Advance spans) m) ≡ answer (Advance (total spans)) m
spans_together [] m = refl
spans_together (span ∷ spans) m = spans_joined span spans m

spans_after : (spans : List ℕ) (m : Machine) → after (map Advance spans) m ≡ (answer (Advance (total spans)) m).machine
spans_after [] m = sym (advance_none m)
spans_after (span ∷ spans) m =
    rw (advance_joined span (total spans) m) (spans_after spans (answer (Advance span) m).machine)

-- The slow run of the cut list against that of the uncut one.
pub slow_cut :
    (es : List Item) (m : Machine) →
    Rejoined es m (answers (cut_calls es) m) (answers (uncut_calls es) m) × (after (uncut_calls es) m ≡ after (cut_calls es) m)
slow_cut [] m = (cuts.end, refl)
slow_cut (kept c ∷ es) m = let rest = slow_cut es (answer c m).machine in (cuts.unchanged rest.0, rest.1)
slow_cut (cut spans ∷ es) m =
    let parts = answers (map Advance spans) m in
    let rest = slow_cut es (together m parts).machine in
    let many : length parts ≡ length spans = length_answers (map Advance spans) m ∙ length-map spans Advance in
    rw (
      answers_append (map Advance spans) (cut_calls es) m,
      after_append (map Advance spans) (cut_calls es) m,
      spans_after spans m,
      ← spans_together spans m,
    ) (
      cuts.put_together parts many rest.0,
      ap (λ (a : Answer). after (uncut_calls es) a.machine) (sym (spans_together spans m)) ∙ rest.1,
    )
