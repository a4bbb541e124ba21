-- What follows from the definitions of the controller, for readers and for the layers above. Assumes nothing.
pub mod Order
pub mod Words
use Rattle.std.specs.Prelude.{◌≡◌, ℕ, zero, suc, ◌-◌, ◌<◌, ◌≤◌, Bool, true, false, cond, ◌&&◌, ◌||◌, leb, ◌==◌, bit_and, bit_or, nat_le}
use Rattle.std.proofs.Math.Path.{refl}
use Rattle.std.proofs.Common.{sym, ap, ◌∙◌, arith, eq-eqb, eqb-true, le-leb}
use Rattle.std.proofs.Math.Bool.{and-eq-true_iff}
use Rattle.std.proofs.Math.Decide.{ℕ_discrete}
use Rattle.std.specs.Int.Bits.{and_self, or_zero_r}
use Rattle.std.proofs.lemmas.Nat.{and_comm}
use Rattle.devices.proofs.Laws.Cases.{chosen, tested}
use Rattle.devices.specs.Refusal.{not_refused, no_register}
use Rattle.devices.proofs.Laws.Register.{ByOffset, by_offset, otherwise}
use Rattle.devices.specs.Word.{without}
use Rattle.devices.proofs.Laws.Word.{and_assoc, or_assoc, or_and}
use Rattle.devices.specs.Irqmp.{lines_1_to_15, lines_1_to_31, within, may_be_noted, well_formed, reset_state}
use Rattle.devices.specs.Irqmp.{with_level, with_pending, with_force, with_mask, with_extended, write_register, with_lines}
use Rattle.devices.specs.Irqmp.{waits, highest, extended_line, or_else, line_taken, take, take12, taken}
use Rattle.devices.specs.Irqmp.{has_register, read_register}
use Rattle.devices.specs.Answer.{Answer, refused, accepted}
use Rattle.devices.specs.Irqmp.{guarded, read, write, set_pending, acknowledge, reset}
use Rattle.devices.specs.declared.irqmp.Irqmp.{Irqmp}

-- The highest line that passes a test, where two tests agree on the lines looked at, and where no line above k passes.
pub highest_same : (k : ℕ) (s t : ℕ → Bool) → ((n : ℕ) → 0 < n → n ≤ k → s n ≡ t n) → highest k s ≡ highest k t
unfolding highest
highest_same zero s t e = refl
highest_same (suc k) s t e =
    rw (e (suc k) (omega arith) (omega arith), highest_same k s t (λ n l m. e n l (omega arith))) refl

pub highest_cut :
    (j k : ℕ) (t : ℕ → Bool) → k ≤ j → ((n : ℕ) → k < n → n ≤ j → t n ≡ false) → highest j t ≡ highest k t
unfolding highest
highest_cut zero k t l e = let z : k ≡ 0 = omega arith in rw z refl
highest_cut (suc j) k t l e =
    elim (ℕ_discrete k (suc j)) [
      | yes z ↦ rw z refl
      | no z ↦
          rw (e (suc j) (omega arith) (omega arith))
          (highest_cut j k t (omega arith) (λ n a b. e n a (omega arith)))
    ]

-- It is one of those looked at, it passes, and none above it does; and a line of which that is true is the one.
pub highest_le : (k : ℕ) (t : ℕ → Bool) → highest k t ≤ k
unfolding highest
highest_le zero t = omega arith
highest_le (suc k) t = tested (t (suc k)) (λ e. rw e (omega arith)) (λ e. rw e (omega (arith, highest_le k t)))

pub highest_passes : (k : ℕ) (t : ℕ → Bool) → 0 < highest k t → t (highest k t) ≡ true
unfolding highest
highest_passes zero t l = absurd (omega arith)
highest_passes (suc k) t l = tested (t (suc k)) (λ e. rw e e) (λ e. rw e (highest_passes k t (rw e at l)))

pub highest_above : (k : ℕ) (t : ℕ → Bool) (n : ℕ) → highest k t < n → n ≤ k → t n ≡ false
unfolding highest
highest_above zero t n l m = absurd (omega arith)
highest_above (suc k) t n l m =
    tested (t (suc k)) (λ e. let over : suc k < n = rw e at l in absurd (omega arith))
    (λ e.
    elim (ℕ_discrete n (suc k)) [
      | yes z ↦ rw z e
      | no z ↦ highest_above k t n (rw e at l) (omega arith)
    ])

highest_own : (n : ℕ) (t : ℕ → Bool) → t n ≡ true → highest n t ≡ n
unfolding highest
highest_own zero t e = refl
highest_own (suc n) t e = rw e refl

pub highest_is :
    (k : ℕ) (t : ℕ → Bool) (n : ℕ) → n ≤ k → t n ≡ true → ((i : ℕ) → n < i → i ≤ k → t i ≡ false) → highest k t ≡ n
highest_is k t n l e f = highest_cut k n t l f ∙ highest_own n t e

-- Words within some lines: what is stored there, with more of those lines, and with fewer lines.
module _ (lines word other : ℕ) where
  kept_within : within lines (bit_and word lines) ≡ true
  kept_within = eq-eqb _ _ (and_assoc word lines lines ∙ ap (bit_and word) (and_self lines))

  module _ (w : within lines word ≡ true) where
    own : bit_and word lines ≡ word
    own = eqb-true (bit_and word lines) word w

    more_within : within lines (bit_or word (bit_and other lines)) ≡ true
    more_within =
        let e : bit_and (bit_or word (bit_and other lines)) lines ≡ bit_or word (bit_and other lines) =
        rw (or_and word (bit_and other lines) lines, own, and_assoc other lines lines, and_self lines) refl in
        eq-eqb _ _ e

    fewer_within : within lines (bit_and word other) ≡ true
    fewer_within =
        eq-eqb _ _
        (and_assoc word other lines ∙ ap (bit_and word) (and_comm other lines) ∙ sym (and_assoc word lines other) ∙
        ap (λ (x : ℕ). bit_and x other) own)

-- An extended line's number may be noted.
or_right : (a b : Bool) → b ≡ true → (a || b) ≡ true
or_right true b e = refl
or_right false b e = e

extended_noted : (c : Irqmp) → may_be_noted (extended_line c) ≡ true
extended_noted c =
    let h = extended_line c in
    elim (ℕ_discrete h 0) [
      | yes z ↦ rw z refl
      | no some ↦
          let low : leb 16 h ≡ true =
          ((and-eq-true_iff (nat_le 16 h) (waits c h)).0 (highest_passes 31 (λ n. nat_le 16 n && waits c n) (omega arith))).0 in
          or_right (h == 0) (nat_le 16 h && nat_le h 31)
          (rw (low, le-leb h 31 (highest_le 31 (λ n. nat_le 16 n && waits c n))) refl)
    ]

-- What a well-formed controller is.
record Well (c : Irqmp) : Type 0 where
  levels : within lines_1_to_15 c.level ≡ true
  pendings : within lines_1_to_31 c.pending ≡ true
  forces : within lines_1_to_15 c.force ≡ true
  masks : within lines_1_to_31 c.mask ≡ true
  notes : may_be_noted c.extended ≡ true

well_of : (c : Irqmp) → well_formed c ≡ true → Well c
unfolding well_formed
well_of c w =
    let a = (and-eq-true_iff _ _).0 w in
    let b = (and-eq-true_iff _ _).0 a.1 in
    let d = (and-eq-true_iff _ _).0 b.1 in
    let e = (and-eq-true_iff _ _).0 d.1 in
    record { levels = a.0; pendings = b.0; forces = d.0; masks = e.0; notes = e.1 }

well_by : (c : Irqmp) → Well c → well_formed c ≡ true
unfolding well_formed
well_by c w = rw (w.levels, w.pendings, w.forces, w.masks, w.notes) refl

-- whichever a test chooses, of controllers and of what answers leave
either_well : (b : Bool) (x y : Irqmp) → well_formed x ≡ true → well_formed y ≡ true → well_formed (cond b x y) ≡ true
either_well b x y e f = chosen (λ t (d : Irqmp). well_formed d ≡ true) b x y e f

either_left_well :
    (b : Bool) (x y : Answer Irqmp) → well_formed x.device ≡ true → well_formed y.device ≡ true →
    well_formed (cond b x y).device ≡ true
either_left_well b x y e f = chosen (λ t (a : Answer Irqmp). well_formed a.device ≡ true) b x y e f

-- A register that is stored, lines that are set, and lines that are cleared.
module _ (c : Irqmp) (w : well_formed c ≡ true) where
  level_stored : (value : ℕ) → well_formed (with_level (bit_and value lines_1_to_15) c) ≡ true
  level_stored value =
      let v = well_of c w in
      let kept = kept_within lines_1_to_15 value 0 in
      well_by _ (record { levels = kept; pendings = v.pendings; forces = v.forces; masks = v.masks; notes = v.notes })

  pending_is : (word : ℕ) → within lines_1_to_31 word ≡ true → well_formed (with_pending word c) ≡ true
  pending_is word e =
      let v = well_of c w in
      well_by _ (record { levels = v.levels; pendings = e; forces = v.forces; masks = v.masks; notes = v.notes })

  force_is : (word : ℕ) → within lines_1_to_15 word ≡ true → well_formed (with_force word c) ≡ true
  force_is word e =
      let v = well_of c w in
      well_by _ (record { levels = v.levels; pendings = v.pendings; forces = e; masks = v.masks; notes = v.notes })

  mask_stored : (value : ℕ) → well_formed (with_mask (bit_and value lines_1_to_31) c) ≡ true
  mask_stored value =
      let v = well_of c w in
      let kept = kept_within lines_1_to_31 value 0 in
      well_by _ (record { levels = v.levels; pendings = v.pendings; forces = v.forces; masks = kept; notes = v.notes })

  noted_is : (n : ℕ) → may_be_noted n ≡ true → well_formed (with_extended n c) ≡ true
  noted_is n e =
      let v = well_of c w in
      well_by _ (record { levels = v.levels; pendings = v.pendings; forces = v.forces; masks = v.masks; notes = e })

  pending_stored : (value : ℕ) → well_formed (with_pending (bit_and value lines_1_to_31) c) ≡ true
  pending_stored value = pending_is _ (kept_within lines_1_to_31 value 0)

  force_stored : (value : ℕ) → well_formed (with_force (bit_and value lines_1_to_15) c) ≡ true
  force_stored value = force_is _ (kept_within lines_1_to_15 value 0)

  pending_cleared : (ones : ℕ) → well_formed (with_pending (without ones c.pending) c) ≡ true
  pending_cleared ones = pending_is _ (fewer_within lines_1_to_31 c.pending (0xFFFFFFFF - ones) (well_of c w).pendings)

  force_cleared : (ones : ℕ) → well_formed (with_force (without ones c.force) c) ≡ true
  force_cleared ones = force_is _ (fewer_within lines_1_to_15 c.force (0xFFFFFFFF - ones) (well_of c w).forces)

  set_well : (lines : ℕ) → well_formed (with_lines lines c) ≡ true
  set_well lines = pending_is _ (more_within lines_1_to_31 c.pending lines (well_of c w).pendings)

  written_well : (offset value : ℕ) → well_formed (write_register offset value c).device ≡ true
  written_well offset value =
      search (either_left_well, level_stored, pending_stored, force_stored, pending_cleared, mask_stored) depth 12

  take_well : (n : ℕ) → well_formed (take n c) ≡ true
  take_well n = search (either_well, force_cleared, pending_cleared)

take_12_well : (c : Irqmp) → well_formed c ≡ true → well_formed (take12 c) ≡ true
take_12_well c w = noted_is _ (take_well c w (or_else (extended_line c) 12)) (extended_line c) (extended_noted c)

taken_well : (c : Irqmp) → well_formed c ≡ true → (n : ℕ) → well_formed (taken n c) ≡ true
taken_well c w n = search (either_well, take_12_well, take_well)

-- A call neither makes an ill-formed controller nor repairs one.
keeps :
    (c : Irqmp) (a : Answer Irqmp) → (well_formed c ≡ true → well_formed a.device ≡ true) →
    well_formed (guarded c a).device ≡ well_formed c
keeps c a f = tested (well_formed c) (λ w. rw (w, f w) refl) (λ ill. rw ill ill)

-- A read changes nothing.
pub read_same : (offset : ℕ) (c : Irqmp) → (read offset c).device ≡ c
unfolding read
read_same offset c = search either_left depth 12
  where
    either_left : (b : Bool) (x y : Answer Irqmp) → x.device ≡ c → y.device ≡ c → (cond b x y).device ≡ c
    either_left b x y e f = chosen (λ t (a : Answer Irqmp). a.device ≡ c) b x y e f

pub read_keeps : (offset : ℕ) (c : Irqmp) → well_formed (read offset c).device ≡ well_formed c
read_keeps offset c = ap well_formed (read_same offset c)

pub write_keeps : (offset value : ℕ) (c : Irqmp) → well_formed (write offset value c).device ≡ well_formed c
unfolding write
write_keeps offset value c = keeps c (write_register offset value c) (λ w. written_well c w offset value)

pub set_keeps : (lines : ℕ) (c : Irqmp) → well_formed (set_pending lines c).device ≡ well_formed c
unfolding set_pending
set_keeps lines c = keeps c (accepted 0 (with_lines lines c)) (λ w. set_well c w lines)

pub acknowledge_keeps : (c : Irqmp) → well_formed (acknowledge c).device ≡ well_formed c
unfolding acknowledge
acknowledge_keeps c = keeps c (accepted (line_taken c) (taken (line_taken c) c)) (λ w. taken_well c w (line_taken c))

pub reset_keeps : (c : Irqmp) → well_formed (reset c).device ≡ well_formed c
unfolding reset well_formed
reset_keeps c = keeps c (accepted 0 reset_state) (λ w. refl)

-- A well-formed controller refuses an access of an offset without a register, with 13, and no other call.
abbrev pub Accepted : Answer Irqmp → Type 0
Accepted a = a.refusal ≡ not_refused

at_offset : (offset : ℕ) (c : Irqmp) → ByOffset Accepted (refused no_register c) (has_register offset) (read_register offset c)
at_offset offset c = search by_offset depth 12

written_at_offset :
    (offset value : ℕ) (c : Irqmp) →
    ByOffset Accepted (refused no_register c) (has_register offset) (write_register offset value c)
written_at_offset offset value c = search by_offset depth 12

module _ (c : Irqmp) (w : well_formed c ≡ true) where
  pub read_by_offset : (offset : ℕ) → ByOffset Accepted (refused no_register c) (has_register offset) (read offset c)
  unfolding read
  read_by_offset offset = rw w (at_offset offset c)

  pub write_by_offset :
      (offset value : ℕ) → ByOffset Accepted (refused no_register c) (has_register offset) (write offset value c)
  unfolding write
  write_by_offset offset value = rw w (written_at_offset offset value c)

  pub set_accepted : (lines : ℕ) → (set_pending lines c).refusal ≡ not_refused
  unfolding set_pending
  set_accepted lines = rw w refl

  pub acknowledge_accepted : (acknowledge c).refusal ≡ not_refused
  unfolding acknowledge
  acknowledge_accepted = rw w refl

-- A refused call changes nothing.
refused_same :
    (c : Irqmp) (a : Answer Irqmp) → ((Accepted a → ⊥) → a.device ≡ c) → (Accepted (guarded c a) → ⊥) →
    (guarded c a).device ≡ c
refused_same c a same differs = tested (well_formed c) (λ w. rw w (same (rw w at differs))) (λ ill. rw ill refl)

pub write_same :
    (offset value : ℕ) (c : Irqmp) → (Accepted (write offset value c) → ⊥) → (write offset value c).device ≡ c
unfolding write
write_same offset value c =
    refused_same c (write_register offset value c)
    (λ differs. ap (λ (a : Answer Irqmp). a.device) (otherwise Accepted _ _ _ (written_at_offset offset value c) differs))

pub acknowledge_same : (c : Irqmp) → (Accepted (acknowledge c) → ⊥) → (acknowledge c).device ≡ c
unfolding acknowledge
acknowledge_same c = refused_same c (accepted (line_taken c) (taken (line_taken c) c)) (λ differs. absurd (differs refl))

-- No lines leave the controller as it is, and lines that are set one after the other are set at once.
pub set_none : (c : Irqmp) → (set_pending 0 c).device ≡ c
unfolding set_pending
set_none c = rw (or_zero_r c.pending) (tested (well_formed c) (λ w. rw w refl) (λ ill. rw ill refl))

pub set_both :
    (a b : ℕ) (c : Irqmp) → (set_pending b (set_pending a c).device).device ≡ (set_pending (bit_or a b) c).device
unfolding set_pending
set_both a b c =
    tested (well_formed c)
    (λ w.
    rw (w, set_well c w a, or_and a b lines_1_to_31, or_assoc c.pending (bit_and a lines_1_to_31) (bit_and b lines_1_to_31)) refl)
    (λ ill. rw (ill, ill) refl)
