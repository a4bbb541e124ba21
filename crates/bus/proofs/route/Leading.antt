-- On a well-formed machine a call's answer is that of its route carried out; and a port that a route names is there. Assumes
-- nothing.
use Rattle.std.specs.Prelude.{Option, Some, None, Result, Ok, Err, ◌%◌, ◌||◌}
use Prim.Native.Nat.{ℕ, ◌-◌}
use mathlib.Core.Path.{◌≡◌, refl, sym, ap, ◌∙◌}
use mathlib.Core.Bool.{Bool, true, cond, not, and-eq-true_iff}
use mathlib.Core.List.{List, [], ◌∷◌}
use native.Mathlib.Decide.{ℕ_discrete}
use native.Mathlib.Omega.{arith}
use lib.Dec.{eqb, leb}
use lib.Seq.{set-get_or}
use borrow.Author.Tests.{leb-false, lt-ltb}
use Rattle.devices.specs.declared.irqmp.Irqmp.{Irqmp}
use Rattle.devices.specs.declared.gptimer.Gptimer.{Gptimer}
use Rattle.devices.proofs.Laws.Cases.{chosen, tested}
use Rattle.devices.specs.Refusal.{not_refused, no_register}
use Rattle.devices.proofs.Laws.Register.{ByOffset}
use Rattle.devices.specs.Apbuart as uart
use Rattle.devices.proofs.Laws.Apbuart as port'
use Rattle.devices.proofs.Laws.Gptimer as unit'
use Rattle.devices.specs.Answer as devices
use Rattle.devices.specs.Irqmp as irq
use Rattle.devices.proofs.Laws.Irqmp as controller'
use Rattle.bus.specs.Refusal.{bad_size, no_window, past_window, misaligned, not_a_word, bad_record}
use Rattle.bus.specs.declared.refusal.Refusal.{Refusal}
use Rattle.bus.specs.declared.refusal.Refusal.TheVariants.{BadSize, BadRecord}
use Rattle.bus.specs.Board.{all_there, is_there, holds, window_at}
use Rattle.bus.specs.Machine.{Machine, Answer, port_at, with_port, with_unit, with_irqmp}
use Rattle.bus.specs.Machine.{well_formed, no_pulses, refused, of_port, of_timer_unit, of_controller}
use Rattle.bus.specs.Time.{step, stepped}
use Rattle.bus.proofs.Laws.Time.{quiet_step, quiet_answer}
use Rattle.bus.specs.Call.{is_size, runs_past, first, rules, access, byte_for, has_register}
use Rattle.bus.specs.Call.{read_device, write_device, reach, execute, window_of}
use Rattle.bus.specs.Call.{subject, answer, refusal}
use Rattle.bus.proofs.Laws.Call.{answer_executed, answer_refused, well_at, well_ports_lem, well_irqmp}
use Rattle.bus.proofs.Laws.Call.{no_port_number, offer_number, other_number}
use Rattle.bus.specs.Route as routes
use Rattle.bus.specs.Route.{port_called, unit_called, controller_called, carried_out, Leads}
use Rattle.bus.specs.Private.{judged, own_unless, read_route, write_route, window_route, access_route, offer_route}
use Rattle.bus.specs.declared.board.Window.{Window}
use Rattle.bus.specs.declared.board.Device.{Device}
use Rattle.bus.specs.declared.board.Device.TheVariants.{Port, TimerUnit, Controller}
use Rattle.bus.specs.declared.board.Board.{Board}
use Rattle.bus.specs.declared.machine.Call.{Call}
use Rattle.bus.specs.declared.machine.Call.TheVariants.{Read, Write, Offer, Advance, Skip, Reset, Acknowledge, Malformed}
use Rattle.bus.specs.declared.route.Route.{Route}
use Rattle.bus.specs.declared.route.Route.TheVariants.{Refused}
use Rattle.bus.specs.declared.route.Route.TheVariants as to
use Rattle.devices.specs.declared.gptimer.Span.TheVariants as span

-- Where a call leads.
unfoldable pub route : Board → Call → Route
route b (Read address size) = access_route read_route address size (window_at address b.windows)
route b (Write address size value) = access_route (write_route value) address size (window_at address b.windows)
route b (Offer n byte) = offer_route b n byte
route b (Advance cycles) = to.Pass (span.Cycles cycles)
route b (Skip limit) = to.Pass (span.ToPulse limit)
route b Reset = to.Reset
route b Acknowledge = to.Acknowledge
route b Malformed = Refused BadRecord

-- What a port answers that does not refuse,
called : (n : ℕ) (a : uart.Answer) (m : Machine) → a.refusal ≡ not_refused → stepped m (of_port n a m) ≡ port_called n a m
called n a m e = rw e refl

-- what it refuses, which changes nothing,
same_port : (n k : ℕ) (m : Machine) → refused k m ≡ port_called n (uart.refused k (port_at n m)) m
same_port n k m =
    let stays : with_port n (port_at n m) m ≡ m = rw (set-get_or m.ports n uart.reset_state) refl in
    ap (refused k) (sym (ap (step no_pulses m) stays ∙ quiet_step m m refl))

-- what the timer unit answers that does not refuse,
united : (a : devices.Answer Gptimer) (m : Machine) → a.refusal ≡ not_refused → stepped m (of_timer_unit a m) ≡ unit_called a m
united a m e = quiet_answer a.value m (with_unit a.device m) refl ∙ rw e refl

-- and the controller.
controlled : (a : devices.Answer Irqmp) (m : Machine) → a.refusal ≡ not_refused → of_controller a m ≡ controller_called a m
controlled a m e = rw e refl

control_step :
    (a : devices.Answer Irqmp) (m : Machine) → a.refusal ≡ not_refused → stepped m (of_controller a m) ≡ controller_called a m
control_step a m e = quiet_answer a.value m (with_irqmp a.device m) refl ∙ controlled a m e

-- An access, which a device answers by its offset: at a register what it does is a step, elsewhere it is refused. Once for every
-- device, by what comes of its answer in the definition and on the route:
by_register :
    {A : Type 0} (P : A → Type 0) (none : A) (has : Bool) (a : A) (m : Machine) (steps calls : A → Answer) →
    (P a → steps a ≡ calls a) → refused no_register m ≡ calls none → ByOffset P none has a →
    cond has (steps a) (refused no_register m) ≡ calls a
by_register P none has a m steps calls same refuses h =
    tested has (λ t. rw t (same (h.there t))) (λ t. rw t (refuses ∙ ap calls (sym (h.lacking t))))

module _ (m : Machine) (has : Bool) where
  port_out :
      (n : ℕ) (a : uart.Answer) → ByOffset port'.Accepted (uart.refused no_register (port_at n m)) has a →
      cond has (stepped m (of_port n a m)) (refused no_register m) ≡ port_called n a m
  port_out n a =
      by_register port'.Accepted _ has a m (λ x. stepped m (of_port n x m)) (λ x. port_called n x m) (called n a m)
      (same_port n no_register m)

  unit_out :
      (a : devices.Answer Gptimer) → ByOffset unit'.Accepted (devices.refused no_register m.unit) has a →
      cond has (stepped m (of_timer_unit a m)) (refused no_register m) ≡ unit_called a m
  unit_out a =
      by_register unit'.Accepted _ has a m (λ x. stepped m (of_timer_unit x m)) (λ x. unit_called x m) (united a m) refl

  controller_out :
      (a : devices.Answer Irqmp) → ByOffset controller'.Accepted (devices.refused no_register m.irqmp) has a →
      cond has (stepped m (of_controller a m)) (refused no_register m) ≡ controller_called a m
  controller_out a =
      by_register controller'.Accepted _ has a m (λ x. stepped m (of_controller x m)) (λ x. controller_called x m)
      (control_step a m) refl

module _ (m : Machine) (w : well_formed m ≡ true) where
  reads_out :
      (d : Device) (offset : ℕ) →
      cond (has_register d offset) (stepped m (read_device m d offset)) (refused no_register m) ≡
      carried_out (read_route d offset) m
  unfolding carried_out
  reads_out (Port n) offset =
      port_out m _ n _ (port'.read_by_offset (port_at n m) (well_at m.ports n (well_ports_lem m w)) offset)
  reads_out TimerUnit offset = unit_out m _ _ (unit'.read_by_offset offset m.unit)
  reads_out Controller offset = controller_out m _ _ (controller'.read_by_offset m.irqmp (well_irqmp m w) offset)

  writes_out :
      (value : ℕ) (d : Device) (offset : ℕ) →
      cond (has_register d offset) (stepped m (write_device value m d offset)) (refused no_register m) ≡
      carried_out (write_route value d offset) m
  unfolding carried_out
  writes_out value (Port n) offset =
      port_out m _ n _ (port'.write_by_offset (port_at n m) (well_at m.ports n (well_ports_lem m w)) offset value)
  writes_out value TimerUnit offset = unit_out m _ _ (unit'.write_by_offset offset value m.unit)
  writes_out value Controller offset =
      controller_out m _ _ (controller'.write_by_offset m.irqmp (well_irqmp m w) offset value)

  -- an access, by the table's lines for one, which look at no machine
  module _
      (c : Call) (reply : Device → ℕ → Answer) (own : Device → ℕ → Route) (address size : ℕ)
      (out :
      (d : Device) (offset : ℕ) →
      cond (has_register d offset) (stepped m (reply d offset)) (refused no_register m) ≡ carried_out (own d offset) m) where
    window_out :
        (found : Option Window) → is_size size ≡ true → refusal (subject c m) m ≡ first (rules (access address size found) m) →
        execute c m ≡ stepped m (reach reply m address found) → answer c m ≡ carried_out (window_route own address size found) m
    unfolding carried_out answer
    window_out None sized e f =
        answer_refused c m no_window (sym (e ∙ rw sized refl)) (λ z. absurd (omega arith))
    window_out (Some v) sized e f =
        let has = has_register v.device (address - v.base) in
        let past = runs_past address size (Some v) in
        let odd = not (eqb (address % size) 0) in
        let narrow = eqb size 1 || eqb size 2 in
        let number : refusal (subject c m) m ≡
        cond past past_window (cond odd misaligned (cond narrow not_a_word (cond (not has) no_register not_refused))) =
        e ∙ rw sized refl in
        rw (number, f)
        (tested past (λ t. rw t refl)
        (λ t. rw t
        (tested odd (λ t. rw t refl)
        (λ t. rw t
        (tested narrow (λ t. rw t refl)
        (λ t. rw (t, ← out v.device (address - v.base)) (tested has (λ t. rw t refl) (λ t. rw t refl))))))))

    accessed_out :
        (found : Option Window) → refusal (subject c m) m ≡ first (rules (access address size found) m) →
        execute c m ≡ stepped m (reach reply m address found) → answer c m ≡ carried_out (access_route own address size found) m
    unfolding carried_out
    accessed_out found e f =
        tested (is_size size) (λ sized. rw sized (window_out found sized e f))
        (λ other. rw other (answer_refused c m bad_size (sym (e ∙ rw other refl)) (λ z. absurd (omega arith))))

  -- an offered byte
  offered_out : (n byte : ℕ) → answer (Offer n byte) m ≡ carried_out (offer_route m.board n byte) m
  unfolding carried_out
  offered_out n byte =
      tested (leb m.board.ports n)
      (λ beyond.
      rw beyond (answer_refused (Offer n byte) m _ (no_port_number n m w beyond) (λ z. absurd (omega arith))))
      (λ there.
      let a = uart.offer byte (port_at n m) in
      let own : a.refusal ≡ refusal (byte_for n) m = sym (offer_number n byte m w there) in
      rw there
      (elim (ℕ_discrete a.refusal not_refused) [
        | yes z ↦ answer_executed (Offer n byte) m (sym own ∙ z) ∙ called n a m z
        | no differs ↦
            answer_refused (Offer n byte) m a.refusal own differs ∙ same_port n a.refusal m ∙
            ap (λ (x : uart.Answer). port_called n x m) (sym (port'.offer_refused (port_at n m) byte differs))
      ]))

  routed : (c : Call) → answer c m ≡ carried_out (route m.board c) m
  unfolding route refusal carried_out
  routed (Read address size) =
      accessed_out (Read address size) (read_device m) read_route address size reads_out (window_of address m) (rw w refl) refl
  routed (Write address size value) =
      accessed_out (Write address size value) (write_device value m) (write_route value) address size (writes_out value)
      (window_of address m) (rw w refl) refl
  routed (Offer n byte) = offered_out n byte
  routed (Advance cycles) = answer_executed (Advance cycles) m (other_number m w)
  routed (Skip limit) = answer_executed (Skip limit) m (other_number m w)
  routed Reset = answer_executed Reset m (other_number m w)
  routed Acknowledge =
      answer_executed Acknowledge m (other_number m w) ∙
      controlled (irq.acknowledge m.irqmp) m (controller'.acknowledge_accepted m.irqmp (well_irqmp m w))
  routed Malformed = answer_refused Malformed m bad_record (rw w refl) (λ z. absurd (omega arith))

-- The window that is found is one of the table's.
abbrev found_there : ℕ → Option Window → Bool
found_there k (Some w) = is_there k w.device
found_there k None = true

found_there_lem : (k address : ℕ) (ws : List Window) → all_there k ws ≡ true → found_there k (window_at address ws) ≡ true
found_there_lem k address [] t = refl
found_there_lem k address (w ∷ ws) t =
    let each = (and-eq-true_iff (is_there k w.device) (all_there k ws)).0 t in
    chosen (λ b (f : Option Window). found_there k f ≡ true) (holds address w) (Some w) (window_at address ws) each.0
    (found_there_lem k address ws each.1)

module _ (k : ℕ) where
  reads_there : (d : Device) (offset : ℕ) → is_there k d ≡ true → routes.port_exists k (read_route d offset) ≡ true
  reads_there (Port n) offset t = t
  reads_there TimerUnit offset t = refl
  reads_there Controller offset t = refl

  writes_there : (value : ℕ) (d : Device) (offset : ℕ) → is_there k d ≡ true → routes.port_exists k (write_route value d offset) ≡ true
  writes_there value (Port n) offset t = t
  writes_there value TimerUnit offset t = refl
  writes_there value Controller offset t = refl

  module _
      (own : Device → ℕ → Route)
      (own-there : (d : Device) (offset : ℕ) → is_there k d ≡ true → routes.port_exists k (own d offset) ≡ true) where
    window_there :
        (address size : ℕ) (found : Option Window) → found_there k found ≡ true →
        routes.port_exists k (window_route own address size found) ≡ true
    window_there address size None t = refl
    window_there address size (Some w) t = unless (judged address size w)
      where
        unless :
            (judged : Result (Unit {0}) Refusal) →
            routes.port_exists k (own_unless judged (own w.device (address - w.base))) ≡ true
        unless (Ok nothing) = own-there w.device (address - w.base) t
        unless (Err refusal) = refl

    accessed_there :
        (address size : ℕ) (ws : List Window) → all_there k ws ≡ true →
        routes.port_exists k (access_route own address size (window_at address ws)) ≡ true
    accessed_there address size ws t =
        chosen (λ b (r : Route). routes.port_exists k r ≡ true) (is_size size) (window_route own address size (window_at address ws))
        (Refused BadSize) (window_there address size (window_at address ws) (found_there_lem k address ws t)) refl

route_there :
    (b : Board) (c : Call) → all_there b.ports b.windows ≡ true → routes.port_exists b.ports (route b c) ≡ true
unfolding route
route_there b (Read address size) t = accessed_there b.ports read_route (reads_there b.ports) address size b.windows t
route_there b (Write address size value) t =
    accessed_there b.ports (write_route value) (writes_there b.ports value) address size b.windows t
route_there b (Offer n byte) t =
    tested (leb b.ports n) (λ beyond. rw beyond refl)
    (λ there. rw there (lt-ltb n b.ports (leb-false b.ports n there)))
route_there b (Advance cycles) t = refl
route_there b (Skip limit) t = refl
route_there b Reset t = refl
route_there b Acknowledge t = refl
route_there b Malformed t = refl

-- A call by its variant leads where its route says.
pub leads : (b : Board) (c v : Call) (r : Route) → c ≡ v → r ≡ route b v → Leads b c r
leads b c v r e f =
    record {
      answers = λ m g w. routed m w c ∙ rw (g, e, ← f) refl;
      port_is_there = λ t. rw (f, ← e) (route_there b c t);
    }
