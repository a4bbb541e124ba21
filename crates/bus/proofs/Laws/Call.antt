-- What follows from the definitions of the calls, for every board. Assumes nothing.
use Rattle.std.specs.Prelude.{ℕ, zero, suc, ◌-◌, ◌≡◌, Bool, true, false, cond, not, ◌&&◌, List, [], ◌∷◌, ◌++◌, eqb, ltb, leb, length, get_or, set, Option, Some, None}
use Rattle.std.proofs.Math.Path.{refl}
use Rattle.std.proofs.Common.{sym, ◌∙◌, arith}
use Rattle.std.proofs.Math.Bool.{and-eq-true_iff}
use Rattle.std.proofs.Math.Decide.{dec_lt, ℕ_discrete}
use borrow.Author.Tests.{eq-eqb, ne_eqb, lt-ltb, le-ltb, lt-leb, le-leb, not-true}
use Rattle.devices.specs.Word.{bit}
use Rattle.devices.proofs.Laws.Cases.{chosen, tested}
use Rattle.devices.specs.Refusal.{not_refused, receiver_off, queue_full, ill_formed}
use Rattle.devices.specs.Apbuart as uart
use Rattle.devices.specs.Apbuart.{Port}
use Rattle.devices.proofs.Laws.Apbuart.{read_keeps, write_keeps, offer_keeps}
use Rattle.devices.specs.Gptimer as gpt
use Rattle.devices.specs.Irqmp as irq
use Rattle.devices.proofs.Laws.Irqmp as controller'
use Rattle.devices.specs.declared.gptimer.Gptimer.{Gptimer}
use Rattle.devices.specs.Answer as devices
use Rattle.devices.specs.declared.gptimer.Elapsed.{Elapsed}
use Rattle.devices.specs.declared.irqmp.Irqmp.{Irqmp}
use Rattle.bus.specs.Refusal.{no_port}
use Rattle.bus.specs.Machine.{Machine, port_at, with_unit, with_irqmp, all_well, well_formed, reset_state}
use Rattle.bus.specs.Machine.{Answer, refused, accepted, of_port, of_timer_unit, of_controller}
use Rattle.bus.specs.Time as time
use Rattle.bus.specs.Time.{stepped, of_span}
use Rattle.bus.proofs.Laws.Time.{quiet_answer, of_unit, advance_unit, skip_unit}
use Rattle.bus.specs.Call as call
use Rattle.bus.specs.Call.{Rule, first, Subject, byte_for, other, table, refusal, window_of, subject}
use Rattle.bus.specs.Call.{read_device, write_device, reach, execute, answer}
use Rattle.bus.specs.declared.board.Window.{Window}
use Rattle.bus.specs.declared.board.Device.{Device}
use Rattle.bus.specs.declared.board.Device.TheVariants as device
use Rattle.bus.specs.declared.machine.Call.{Call}
use Rattle.bus.specs.declared.machine.Call.TheVariants.{Read, Write, Offer, Advance, Skip, Reset, Acknowledge, Malformed}

-- What a call does is one of these: a step of a port, which neither makes nor repairs an ill-formed port; an access of the timer
-- unit; what the controller answers, which neither makes nor repairs an ill-formed controller; a span of time; a reset.
module _
    (P : Answer → Type 0) (m : Machine)
    (ports :
    (n : ℕ) (a : uart.Answer) → uart.well_formed a.port ≡ uart.well_formed (port_at n m) → P (stepped m (of_port n a m)))
    (units : (value : ℕ) (u : Gptimer) → P (accepted value (with_unit u m)))
    (controllers :
    (value : ℕ) (c : Irqmp) → irq.well_formed c ≡ irq.well_formed m.irqmp → P (accepted value (with_irqmp c m)))
    (spans : (e : Elapsed) → P (of_span (of_unit e m))) (resets : P (accepted 0 (reset_state m.board))) where
  -- A step that leaves the ports alone is no more than what it answers.
  unit_step : (value : ℕ) (u : Gptimer) → P (stepped m (accepted value (with_unit u m)))
  unit_step value u = rw (quiet_answer value m (with_unit u m) refl) (units value u)

  unit_answer : (a : devices.Answer Gptimer) → P (stepped m (of_timer_unit a m))
  unit_answer a = unit_step a.value a.device

  controller_step :
      (a : devices.Answer Irqmp) → irq.well_formed a.device ≡ irq.well_formed m.irqmp → P (stepped m (of_controller a m))
  controller_step a kept =
      rw (quiet_answer a.value m (with_irqmp a.device m) refl) (controllers a.value a.device kept)

  reaches :
      (reply : Device → ℕ → Answer) (address : ℕ) (found : Option Window) → ((d : Device) (offset : ℕ) → P (stepped m (reply d offset))) →
      P (stepped m (reach reply m address found))
  reaches reply address (Some w) p = p w.device (address - w.base)
  reaches reply address None p = unit_step 0 m.unit

  reads : (d : Device) (offset : ℕ) → P (stepped m (read_device m d offset))
  reads (device.Port n) offset = ports n (uart.read offset (port_at n m)) (read_keeps offset (port_at n m))
  reads device.TimerUnit offset = unit_answer (gpt.read offset m.unit)
  reads device.Controller offset = controller_step (irq.read offset m.irqmp) (controller'.read_keeps offset m.irqmp)

  writes : (value : ℕ) (d : Device) (offset : ℕ) → P (stepped m (write_device value m d offset))
  writes value (device.Port n) offset =
      ports n (uart.write offset value (port_at n m)) (write_keeps offset value (port_at n m))
  writes value device.TimerUnit offset = unit_answer (gpt.write offset value m.unit)
  writes value device.Controller offset =
      controller_step (irq.write offset value m.irqmp) (controller'.write_keeps offset value m.irqmp)

  execute_all : (c : Call) → P (execute c m)
  execute_all (Read address size) = reaches (read_device m) address (window_of address m) reads
  execute_all (Write address size value) = reaches (write_device value m) address (window_of address m) (writes value)
  execute_all (Offer n byte) = ports _ (uart.offer byte _) (offer_keeps byte _)
  execute_all (Advance cycles) = rw (advance_unit cycles m) (spans (gpt.advance cycles m.unit))
  execute_all (Skip limit) = rw (skip_unit limit m) (spans (gpt.skip limit m.unit))
  execute_all Reset = resets
  execute_all Acknowledge =
      controllers (irq.acknowledge m.irqmp).value (irq.acknowledge m.irqmp).device
      (controller'.acknowledge_keeps m.irqmp)
  execute_all Malformed = units 0 m.unit

-- What a call does has the number 0.
pub execute_number : (c : Call) (m : Machine) → (execute c m).refusal ≡ not_refused
execute_number c m =
    execute_all (λ a. a.refusal ≡ not_refused) m (λ n a kept. refl) (λ value u. refl) (λ value d kept. refl) (λ e. refl) refl c

-- A call is answered by what it does, or refused.
module _ (c : Call) (m : Machine) where
  pub answer_executed : refusal (subject c m) m ≡ not_refused → answer c m ≡ execute c m
  unfolding answer
  answer_executed z = rw (eq-eqb (refusal (subject c m) m) not_refused z) refl

  pub answer_refused :
      (number : ℕ) → number ≡ refusal (subject c m) m → (number ≡ not_refused → ⊥) → answer c m ≡ refused number m
  unfolding answer
  answer_refused number e differs = rw (← e, ne_eqb number not_refused differs) refl

-- A well-formed machine has well-formed ports; one that is not there is at reset.
well_cons : (p : Port) (ps : List Port) → all_well (p ∷ ps) ≡ true → (uart.well_formed p ≡ true) × (all_well ps ≡ true)
unfolding all_well
well_cons p ps w = (and-eq-true_iff (uart.well_formed p) (all_well ps)).0 w

pub well_at : (ps : List Port) (n : ℕ) → all_well ps ≡ true → uart.well_formed (get_or ps n uart.reset_state) ≡ true
unfolding uart.well_formed
well_at [] n w = refl
well_at (p ∷ ps) zero w = (well_cons p ps w).0
well_at (p ∷ ps) (suc n) w = well_at ps n (well_cons p ps w).1

pub well_ports_lem : (m : Machine) → well_formed m ≡ true → all_well m.ports ≡ true
well_ports_lem m w = ((and-eq-true_iff (all_well m.ports) (irq.well_formed m.irqmp)).0 w).0

pub well_irqmp : (m : Machine) → well_formed m ≡ true → irq.well_formed m.irqmp ≡ true
well_irqmp m w = ((and-eq-true_iff (all_well m.ports) (irq.well_formed m.irqmp)).0 w).1

-- A port that the board does not have gets 6; 7 and 8 of the table are the port's own.
room : (n depth : ℕ) → leb depth n ≡ not (ltb n depth)
room n depth =
    elim (dec_lt n depth) [
      | yes l ↦ rw (lt-ltb n depth l, lt-leb depth n l) refl
      | no l ↦ rw (le-ltb n depth (omega arith), le-leb depth n (omega arith)) refl
    ]

receive_number :
    (on free : Bool) (p : Port) (a : uart.Answer) → a.refusal ≡ not_refused →
    cond (not on) receiver_off (cond (not free) queue_full not_refused) ≡
    (cond on (cond free a (uart.refused queue_full p)) (uart.refused receiver_off p)).refusal
receive_number true true p a e = sym e
receive_number true false p a e = refl
receive_number false free p a e = refl

pub no_port_number :
    (n : ℕ) (m : Machine) → well_formed m ≡ true → leb m.board.ports n ≡ true → no_port ≡ refusal (byte_for n) m
unfolding refusal
no_port_number n m w beyond = rw (w, beyond) refl

pub offer_number :
    (n byte : ℕ) (m : Machine) → well_formed m ≡ true → leb m.board.ports n ≡ false →
    refusal (byte_for n) m ≡ (uart.offer byte (port_at n m)).refusal
unfolding refusal uart.offer
offer_number n byte m w there =
    rw (w, there, well_at m.ports n (well_ports_lem m w), room (length (port_at n m).queue) uart.depth)
    (receive_number (bit uart.RE (port_at n m).control) (ltb (length (port_at n m).queue) uart.depth) (port_at n m) _ refl)

-- No condition of a table holds: then, and only then, is its number 0, where no line has that number.
abbrev pub none_given : List Rule → Bool
none_given [] = true
none_given (r ∷ rs) = not r.given && none_given rs

abbrev pub numbered : List Rule → Bool
numbered [] = true
numbered (r ∷ rs) = not (eqb r.number not_refused) && numbered rs

first_none : (rs : List Rule) → numbered rs ≡ true → eqb (first rs) not_refused ≡ none_given rs
first_none [] w = refl
first_none (r ∷ rs) w =
    let others = (and-eq-true_iff (not (eqb r.number not_refused)) (numbered rs)).0 w in
    tested r.given (λ given. rw given (not-true _ others.0)) (λ e. rw e (first_none rs others.1))

-- A line behind others is given where none of them is.
pub first_then :
    (rs : List Rule) (r : Rule) → numbered rs ≡ true →
    first (rs ++ (r ∷ [])) ≡ cond (eqb (first rs) not_refused) (first (r ∷ [])) (first rs)
first_then [] r w = refl
first_then (q ∷ rs) r w =
    let others = (and-eq-true_iff (not (eqb q.number not_refused)) (numbered rs)).0 w in
    tested q.given (λ given. rw (given, not-true (eqb q.number not_refused) others.0) refl) (λ e. rw e (first_then rs r others.1))

table_numbered : (s : Subject) (m : Machine) → numbered (table s m) ≡ true
table_numbered (call.access address size found) m = refl
table_numbered (byte_for n) m = refl
table_numbered call.unreadable m = refl
table_numbered other m = refl

pub refusal_none : (s : Subject) (m : Machine) → eqb (refusal s m) not_refused ≡ none_given (table s m)
unfolding refusal
refusal_none s m = first_none (table s m) (table_numbered s m)

-- A call's number is the table's.
pub answer_number : (c : Call) (m : Machine) → (answer c m).refusal ≡ refusal (subject c m) m
answer_number c m =
    elim (ℕ_discrete (refusal (subject c m) m) not_refused) [
      | yes z ↦ rw (answer_executed c m z, z) (execute_number c m)
      | no differs ↦ rw (answer_refused c m (refusal (subject c m) m) refl differs) refl
    ]

-- An ill-formed machine gets 9, and comes back.
pub ill_number : (s : Subject) (m : Machine) → well_formed m ≡ false → ill_formed ≡ refusal s m
unfolding refusal
ill_number s m ill = rw ill refl

pub ill_refused : (c : Call) (m : Machine) → well_formed m ≡ false → answer c m ≡ refused ill_formed m
ill_refused c m ill = answer_refused c m ill_formed (ill_number (subject c m) m ill) (λ z. absurd (omega arith))

-- A well-formed machine stays well formed.
well_set :
    (ps : List Port) (n : ℕ) (p : Port) → all_well ps ≡ true → uart.well_formed p ≡ true → all_well (set ps n p) ≡ true
unfolding all_well
well_set [] n p w v = refl
well_set (q ∷ ps) zero p w v = rw v (well_cons q ps w).1
well_set (q ∷ ps) (suc n) p w v = rw (well_cons q ps w).0 (well_set ps n p (well_cons q ps w).1 v)

execute_well : (c : Call) (m : Machine) → well_formed m ≡ true → well_formed (execute c m).machine ≡ true
unfolding all_well uart.well_formed irq.well_formed
execute_well c m w =
    let ports = well_ports_lem m w in
    let set : (lines : ℕ) → irq.well_formed (irq.set_pending lines m.irqmp).device ≡ true =
    λ lines. controller'.set_keeps lines m.irqmp ∙ well_irqmp m w in
    execute_all (λ a. well_formed a.machine ≡ true) m
    (λ n a kept. rw (well_set m.ports n a.port ports (kept ∙ well_at m.ports n ports), set _) refl)
    (λ value u. w) (λ value d kept. rw (ports, kept, well_irqmp m w) refl) (λ e. rw (ports, set _) refl) refl c

pub answer_keeps : (c : Call) (m : Machine) → well_formed (answer c m).machine ≡ well_formed m
unfolding answer
answer_keeps c m =
    tested (well_formed m)
    (λ w.
    chosen (λ b (a : Answer). well_formed a.machine ≡ well_formed m) (eqb (refusal (subject c m) m) not_refused) _ _
    (execute_well c m w ∙ sym w) refl)
    (λ ill. rw (ill_refused c m ill) refl)

-- On a well-formed machine an advance and a skip are single cycles.
pub other_number : (m : Machine) → well_formed m ≡ true → refusal other m ≡ not_refused
unfolding refusal
other_number m w = rw w refl

module _ (m : Machine) (w : well_formed m ≡ true) (n : ℕ) where
  pub advance_well : answer (Advance n) m ≡ of_span (time.advance n m)
  advance_well = answer_executed (Advance n) m (other_number m w)

  pub skip_well : answer (Skip n) m ≡ of_span (time.skip n m)
  skip_well = answer_executed (Skip n) m (other_number m w)
