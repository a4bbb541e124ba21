-- What follows from the definitions of the serial port, for the layers above. Assumes nothing.
use Rattle.std.specs.Prelude.{◌≡◌, ℕ, ◌/◌, ◌%◌, ◌^◌, ◌≤◌, Bool, true, false, cond, List, [], ◌∷◌, ◌++◌, length, ◌≢◌, nat_le, nat_lt, refl}
use Rattle.std.proofs.Math.Bool.{and-eq-true_iff}
use Rattle.std.proofs.Common.{le_trans, arith, length-append, leb-true, le-leb, ltb-true, eq-eqb}
use Rattle.devices.specs.Word.{bit}
use Rattle.devices.proofs.Laws.Cases.{chosen}
use Rattle.devices.specs.Refusal.{not_refused, ill_formed, no_register}
use Rattle.devices.proofs.Laws.Register.{ByOffset, by_offset}
use Rattle.devices.specs.Apbuart.{Port, Answer, FA, depth, well_formed, refused, accepted, guarded}
use Rattle.devices.specs.Apbuart.{with_queue, update_level, younger, write_control, write_scaler}
use Rattle.devices.specs.Apbuart.{has_register, read_register, write_register, receive, reset_state, read, write, offer, reset}

-- a well-formed port's CONTROL has bit 31, and its queue is within the depth
well_control : (p : Port) → well_formed p ≡ true → bit FA p.control ≡ true
unfolding well_formed
well_control p w = ((and-eq-true_iff (bit FA p.control) (nat_le (length p.queue) depth)).0 w).0

pub well_queue : (p : Port) → well_formed p ≡ true → length p.queue ≤ depth
unfolding well_formed
well_queue p w =
    leb-true (length p.queue) depth
    ((and-eq-true_iff (bit FA p.control) (nat_le (length p.queue) depth)).0 w).1

well_by : (p : Port) → bit FA p.control ≡ true → length p.queue ≤ depth → well_formed p ≡ true
unfolding well_formed
well_by p c q = rw c (le-leb (length p.queue) depth q)

-- whichever of two answers a test chooses, the port after it is well formed
either_well :
    (b : Bool) (x y : Answer) → (b ≡ true → well_formed x.port ≡ true) → (b ≡ false → well_formed y.port ≡ true) →
    well_formed (cond b x y).port ≡ true
either_well true x y f g = f refl
either_well false x y f g = g refl

fewer : (q : List ℕ) → length (younger q) ≤ length q
fewer [] = omega arith
fewer (b ∷ q) = omega arith

module _ (p : Port) (w : well_formed p ≡ true) where
  oldest_left : well_formed (with_queue (younger p.queue) p) ≡ true
  oldest_left = well_by _ (well_control p w) (le_trans (fewer p.queue) (well_queue p w))

  control_written : (value : ℕ) → well_formed (write_control value p).port ≡ true
  control_written value =
      let forced : (write_control value p).port.control / 2 ^ FA % 2 ≡ 1 = omega arith in
      well_by _ (eq-eqb _ _ forced) (well_queue p w)

  scaler_written : (value : ℕ) → well_formed (write_scaler value p).port ≡ true
  scaler_written value = well_by _ (well_control p w) (well_queue p w)

  byte_joined :
      (byte : ℕ) → nat_lt (length p.queue) depth ≡ true →
      well_formed (update_level (with_queue (p.queue ++ (byte ∷ [])) p)) ≡ true
  byte_joined byte room = well_by _ (well_control p w) (simp length-append (omega (arith, ltb-true)))

-- a call neither makes an ill-formed port nor repairs one
keeps :
    (p : Port) (x : Answer) → (well_formed p ≡ true → well_formed x.port ≡ true) →
    well_formed (guarded p x).port ≡ well_formed p
keeps p x f = by_test (well_formed p) refl
  where
    by_test : (b : Bool) → well_formed p ≡ b → well_formed (cond b x (refused ill_formed p)).port ≡ well_formed p
    by_test true e = rw e (f e)
    by_test false e = refl

pub read_keeps : (offset : ℕ) (p : Port) → well_formed (read offset p).port ≡ well_formed p
unfolding read
read_keeps offset p = keeps p (read_register offset p) (λ w. search (either_well, oldest_left) depth 12)

pub write_keeps : (offset value : ℕ) (p : Port) → well_formed (write offset value p).port ≡ well_formed p
unfolding write
write_keeps offset value p =
    keeps p (write_register offset value p) (λ w. search (either_well, control_written, scaler_written) depth 12)

pub offer_keeps : (byte : ℕ) (p : Port) → well_formed (offer byte p).port ≡ well_formed p
unfolding offer
offer_keeps byte p = keeps p (receive byte p) (λ w. search (either_well, byte_joined) depth 12)

pub reset_keeps : (p : Port) → well_formed (reset p).port ≡ well_formed p
unfolding reset well_formed
reset_keeps p = keeps p (accepted 0 reset_state) (λ w. refl)

-- an access of a well-formed port is not refused where the offset has a register, and gets 13 where it has none
abbrev pub Accepted : Answer → Type 0
Accepted a = a.refusal ≡ not_refused

either_accepted : (b : Bool) (x y : Answer) → Accepted x → Accepted y → Accepted (cond b x y)
either_accepted b x y e f = chosen (λ c (a : Answer). Accepted a) b x y e f

module _ (p : Port) (w : well_formed p ≡ true) where
  pub read_by_offset : (offset : ℕ) → ByOffset Accepted (refused no_register p) (has_register offset) (read offset p)
  unfolding read
  read_by_offset offset =
      let register : ByOffset Accepted (refused no_register p) (has_register offset) (read_register offset p) =
      search (by_offset, either_accepted) depth 12 in
      rw w register

  pub write_by_offset :
      (offset value : ℕ) → ByOffset Accepted (refused no_register p) (has_register offset) (write offset value p)
  unfolding write
  write_by_offset offset value =
      let register : ByOffset Accepted (refused no_register p) (has_register offset) (write_register offset value p) =
      search (by_offset, either_accepted) depth 12 in
      rw w register

-- an offered byte that is refused changes nothing
record Unchanged (p : Port) (a : Answer) : Type 0 where
  same : (a.refusal ≢ not_refused) → a ≡ refused a.refusal p

either_unchanged : (p : Port) (b : Bool) (x y : Answer) → Unchanged p x → Unchanged p y → Unchanged p (cond b x y)
either_unchanged p b x y e f = chosen (λ c (a : Answer). Unchanged p a) b x y e f

accepted_unchanged : (p q : Port) (value : ℕ) → Unchanged p (accepted value q)
accepted_unchanged p q value = record { same = λ differs. absurd (differs refl) }

pub offer_refused :
    (p : Port) (byte : ℕ) → ((offer byte p).refusal ≢ not_refused) → offer byte p ≡ refused (offer byte p).refusal p
unfolding offer
offer_refused p byte =
    let unchanged : Unchanged p (offer byte p) = search (either_unchanged, accepted_unchanged) depth 12 in unchanged.same
