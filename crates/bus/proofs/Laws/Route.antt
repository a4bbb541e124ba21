-- What comes of a route on a machine of the code, from what its device answered: for the arms that carry routes out, of a single call
-- and of a run. Assumes nothing.
use Rattle.std.specs.Prelude.{ℕ, zero, suc, Option, Some, ◌*◌, ◌^◌, ◌<◌, ◌≡◌, true, cond, List, [], ◌∷◌, map, length, set}
use Rattle.std.proofs.Math.Path.{refl, sym, ap}
use Rattle.std.proofs.Common.{◌∙◌, arith, Fits, ltb-true}
use Rattle.std.proofs.Math.ListN.{get_or}
use Rattle.std.proofs.lemmas.List.{length-map}
use Rattle.std.proofs.Math.Seq.{set-get_or}
use Rattle.std.specs.Int.{w64}
use borrow.Author.Rules.{scaled_Fits}
use Rattle.devices.specs.Refusal.{not_refused}
use Rattle.devices.specs.Apbuart as uart
use Rattle.devices.specs.Apbuart.Call.{answer_to}
use Rattle.devices.specs.Apbuart.View as port
use Rattle.devices.specs.Apbuart.View.{port_of}
use Rattle.devices.specs.Gptimer as gpt
use Rattle.devices.specs.Irqmp as irq
use Rattle.devices.proofs.Laws.Gptimer as unit'
use Rattle.devices.proofs.Laws.Irqmp.{set_none, read_same, write_same, acknowledge_same}
use Rattle.devices.specs.Gptimer.Span.{pass, counted_down, Tells}
use Rattle.devices.specs.declared.apbuart.Apbuart.{Apbuart}
use Rattle.devices.specs.declared.apbuart.Done.{Done}
use Rattle.devices.specs.declared.apbuart.Call.{Call}
use Rattle.devices.specs.declared.gptimer.Gptimer.{Gptimer}
use Rattle.devices.specs.Answer as devices
use Rattle.devices.specs.Answer.View.{number_in, value_in, answer_of}
use Rattle.devices.specs.declared.answer.Answer as own
use Rattle.devices.specs.declared.gptimer.Elapsed.{Elapsed}
use Rattle.devices.specs.declared.gptimer.Span.{Span}
use Rattle.devices.specs.declared.gptimer.Span.TheVariants.{Cycles, ToPulse}
use Rattle.devices.specs.declared.gptimer.Short.{Short}
use Rattle.devices.specs.declared.irqmp.Irqmp.{Irqmp}
use Rattle.bus.specs.Refusal.{number_of}
use Rattle.bus.specs.Board.{gr712rc}
use Rattle.bus.specs.Machine as bus
use Rattle.bus.specs.Time as time
use Rattle.bus.specs.Time.{lines_of, pulsed, rises}
use Rattle.bus.proofs.Laws.Time.{still, quiet_lines, port_step, of_unit, advance_unit, skip_unit}
use Rattle.bus.specs.Route.{replied, port_answer, value_answer, span_answer, passes, carried_out, port_exists, Leads}
use Rattle.bus.specs.View.{machine_of}
use Rattle.bus.specs.Private.{CarriesOut}
use Rattle.bus.specs.declared.machine.Machine.{Machine}
use Rattle.bus.specs.declared.machine.Call as machine
use Rattle.bus.specs.declared.reply.Reply.{Reply}
use Rattle.bus.specs.declared.refusal.Refusal.{Refusal}
use Rattle.bus.specs.declared.route.Route.{Route}
use Rattle.bus.specs.declared.route.Route.TheVariants.{Refused, Port, Read, Write, Acknowledge, Pass, Reset}
use Rattle.bus.specs.declared.route.Core.{Core}
use Rattle.bus.specs.declared.route.Core.TheVariants.{TimerUnit, Controller}

abbrev pub store_port : ℕ → Apbuart → Machine → Machine
store_port n p m = record { ports = set m.ports n p; unit = m.unit; irqmp = m.irqmp }

abbrev pub store_unit : Gptimer → Machine → Machine
store_unit u m = record { ports = m.ports; unit = u; irqmp = m.irqmp }

abbrev pub store_irqmp : Irqmp → Machine → Machine
store_irqmp c m = record { ports = m.ports; unit = m.unit; irqmp = c }

-- The route has this answer, and leaves this machine; one that is refused leaves the machine as it is.
pub record Outcome (m : Machine) (route : Route) (a : bus.Answer) (next : Machine) : Type 0 where
  pub answer : carried_out route (machine_of m) ≡ a
  pub machine : a.machine ≡ machine_of next
  pub same : (a.refusal ≡ not_refused → ⊥) → next ≡ m

-- The code's reply says what the route answers.
pub carries_out :
    (m next : Machine) (route : Route) (r : Reply) (f : bus.Machine → bus.Answer) → replied r ≡ f →
    Outcome m route (f (machine_of next)) next → CarriesOut route m r next
carries_out m next route r f says h =
    let whole : replied r (machine_of next) ≡ f (machine_of next) = ap (λ g. g (machine_of next)) says in
    record {
      answer = whole ∙ sym h.answer;
      same = λ refused. h.same (λ z. refused (ap (λ (x : bus.Answer). x.refusal) whole ∙ z));
    }

-- One port of the code's machine.
ports_set : (ps : List Apbuart) (i : ℕ) (p : Apbuart) → map port_of (set ps i p) ≡ set (map port_of ps) i (port_of p)
ports_set [] i p = refl
ports_set (q ∷ ps) zero p = refl
ports_set (q ∷ ps) (suc i) p = ap {B = List uart.Port} (λ rest. port_of q ∷ rest) (ports_set ps i p)

port_viewed :
    (ps : List Apbuart) (i : ℕ) (z : Apbuart) → i < length ps → port_of (get_or ps i z) ≡ get_or (map port_of ps) i uart.reset_state
port_viewed [] i z l = absurd (omega arith)
port_viewed (p ∷ ps) zero z l = refl
port_viewed (p ∷ ps) (suc i) z l = port_viewed ps i z (omega arith)

-- A refused answer of the code leaves the device, as the defined one does.
left :
    {D : Type 0} (x : own.Answer D ℕ) (a : devices.Answer D) {d : D} → answer_of x ≡ a →
    ((a.refusal ≡ not_refused → ⊥) → a.device ≡ d) → (number_in x.outcome ≡ not_refused → ⊥) → x.device ≡ d
left x a e same refused = ap (λ b. b.device) e ∙ same (λ z. refused (ap (λ b. b.refusal) e ∙ z))

-- A span of the machine is the timer unit's, with the lines of the timers that pulsed.
passes_unit : (span : Span) (m : bus.Machine) → passes span m ≡ of_unit (pass span m.unit) m
passes_unit (Cycles cycles) m = advance_unit cycles m
passes_unit (ToPulse limit) m = skip_unit limit m

module _ (m : Machine) (route : Route) where
  pub refused_outcome :
      (refusal : Refusal) → route ≡ Refused refusal → Outcome m route (bus.refused (number_of refusal) (machine_of m)) m
  unfolding carried_out
  refused_outcome refusal e = record { answer = rw e refl; machine = refl; same = λ refused. refl }

  pub port_outcome :
      (n : ℕ) (z : Apbuart) (x : own.Answer Apbuart Done) (c : Call) (d : Irqmp) → route ≡ Port n c → n < 6 → length m.ports ≡ 6 →
      port.Conforms (get_or m.ports n z) (answer_to c (port_of (get_or m.ports n z))) x →
      d ≡
      (irq.set_pending (cond (rises (get_or m.ports n z).level x.device.level) (get_or gr712rc.lines.ports n 0) 0)
      m.irqmp).device →
      (let next : Machine = store_irqmp d (store_port n x.device m) in
      Outcome m route (port_answer (port.answer_of x) (machine_of next)) next)
  unfolding carried_out gr712rc
  port_outcome n z x c d e l whole conforms set-by =
      let viewed : port_of (get_or m.ports n z) ≡ bus.port_at n (machine_of m) = port_viewed m.ports n z (omega arith) in
      let own : answer_to c (bus.port_at n (machine_of m)) ≡ port.answer_of x =
      ap (answer_to c) (sym viewed) ∙ sym conforms.answer in
      let was : (get_or m.ports n z).level ≡ (bus.port_at n (machine_of m)).level = ap (λ (p : uart.Port). p.level) viewed in
      let stepped : bus.Machine = machine_of (store_irqmp d (store_port n x.device m)) in
      let after : time.step bus.no_pulses (machine_of m) (bus.with_port n (port_of x.device) (machine_of m)) ≡ stepped =
      port_step n (port_of x.device) (machine_of m) (rw (length-map, whole) (omega arith)) ∙
      rw (ports_set m.ports n x.device, set-by, was) refl in
      record {
        answer = rw (e, own) (ap (port_answer (port.answer_of x)) after);
        machine = refl;
        same =
            λ refused.
            let back : x.device ≡ get_or m.ports n z = conforms.same refused in
            let none : d ≡ m.irqmp = set-by ∙ rw (back, still (get_or m.ports n z).level) (set_none m.irqmp) in
            rw (back, none, set-get_or m.ports n z) refl;
      }

  -- what is never refused
  accepted_outcome :
      (a : bus.Answer) (next : Machine) → carried_out route (machine_of m) ≡ a → a.machine ≡ machine_of next →
      a.refusal ≡ not_refused → Outcome m route a next
  accepted_outcome a next e f z = record { answer = e; machine = f; same = λ refused. absurd (refused z) }

  -- what the timer unit or the controller answers, with its own number and value; `next` has it stored
  core_outcome :
      (refusal value : ℕ) (next : Machine) → carried_out route (machine_of m) ≡ value_answer refusal value (machine_of next) →
      ((refusal ≡ not_refused → ⊥) → next ≡ m) → Outcome m route (value_answer refusal value (machine_of next)) next
  core_outcome refusal value next e back = record { answer = e; machine = refl; same = back }

  pub unit_read_outcome :
      (core : Core) (offset : ℕ) (x : own.Answer Gptimer ℕ) → route ≡ Read offset core → core ≡ TimerUnit →
      answer_of x ≡ gpt.read offset m.unit → Outcome m route (value_answer (number_in x.outcome) (value_in x.outcome) (machine_of m)) m
  unfolding carried_out
  unit_read_outcome core offset x e k f =
      let same : x.device ≡ m.unit = ap (λ a. a.device) f ∙ unit'.read_same offset m.unit in
      core_outcome _ _ m (rw (e, k, ← f, same) refl) (λ refused. refl)

  pub unit_write_outcome :
      (core : Core) (offset value : ℕ) (x : own.Answer Gptimer ℕ) → route ≡ Write offset value core → core ≡ TimerUnit →
      answer_of x ≡ gpt.write offset value m.unit →
      Outcome m route (value_answer (number_in x.outcome) (value_in x.outcome) (machine_of (store_unit x.device m))) (store_unit x.device m)
  unfolding carried_out
  unit_write_outcome core offset value x e k f =
      core_outcome _ _ (store_unit x.device m) (rw (e, k, ← f) refl)
      (λ refused. rw (left _ _ f (unit'.write_same offset value m.unit) refused) refl)

  pub controller_read_outcome :
      (core : Core) (offset : ℕ) (x : own.Answer Irqmp ℕ) → route ≡ Read offset core → core ≡ Controller →
      answer_of x ≡ irq.read offset m.irqmp → Outcome m route (value_answer (number_in x.outcome) (value_in x.outcome) (machine_of m)) m
  unfolding carried_out
  controller_read_outcome core offset x e k f =
      let same : x.device ≡ m.irqmp = ap (λ a. a.device) f ∙ read_same offset m.irqmp in
      core_outcome _ _ m (rw (e, k, ← f, same) refl) (λ refused. refl)

  pub controller_write_outcome :
      (core : Core) (offset value : ℕ) (x : own.Answer Irqmp ℕ) → route ≡ Write offset value core → core ≡ Controller →
      answer_of x ≡ irq.write offset value m.irqmp →
      Outcome m route (value_answer (number_in x.outcome) (value_in x.outcome) (machine_of (store_irqmp x.device m))) (store_irqmp x.device m)
  unfolding carried_out
  controller_write_outcome core offset value x e k f =
      core_outcome _ _ (store_irqmp x.device m) (rw (e, k, ← f) refl)
      (λ refused. rw (left _ _ f (write_same offset value m.irqmp) refused) refl)

  pub acknowledge_outcome :
      (x : own.Answer Irqmp ℕ) → route ≡ Acknowledge → answer_of x ≡ irq.acknowledge m.irqmp →
      Outcome m route (value_answer (number_in x.outcome) (value_in x.outcome) (machine_of (store_irqmp x.device m))) (store_irqmp x.device m)
  unfolding carried_out
  acknowledge_outcome x e f =
      core_outcome _ _ (store_irqmp x.device m) (rw (e, ← f) refl)
      (λ refused. rw (left _ _ f (acknowledge_same m.irqmp) refused) refl)

  pub pass_outcome :
      (span : Span) (x : Elapsed) (d : Irqmp) → route ≡ Pass span → x ≡ pass span m.unit →
      d ≡ (irq.set_pending (lines_of gr712rc.lines.timers (pulsed x.pulses)) m.irqmp).device →
      (let next : Machine = store_irqmp d (store_unit x.unit m) in
      Outcome m route (span_answer x.cycles x.pulses (machine_of next)) next)
  unfolding carried_out
  pass_outcome span x d e f set-by =
      accepted_outcome _ (store_irqmp d (store_unit x.unit m)) (rw (e, passes_unit span (machine_of m), ← f, set-by) refl) refl refl

  pub short_outcome :
      (span : Span) (t : Option Short) (s : Short) → route ≡ Pass span → Tells span m.unit t → t ≡ Some s →
      (let next : Machine = store_unit (gpt.with_scaler s.scaler m.unit) m in
      Outcome m route (span_answer s.cycles bus.no_pulses (machine_of next)) next)
  short_outcome span t s e tells f =
      pass_outcome span (counted_down s.cycles s.scaler m.unit) m.irqmp e (sym (rw f at tells).1)
      (sym (rw (quiet_lines gr712rc.lines.timers bus.no_pulses refl) (set_none m.irqmp)))

  pub reset_outcome :
      (next : Machine) → route ≡ Reset → machine_of next ≡ bus.reset_state gr712rc →
      Outcome m route (bus.accepted 0 (machine_of next)) next
  unfolding carried_out
  reset_outcome next e f = accepted_outcome _ next (rw e (ap (bus.accepted 0) (sym f))) refl refl

-- A port that a route names is there.
pub leads_there : (k : machine.Call) (route : Route) → Leads gr712rc k route → port_exists gr712rc.ports route ≡ true
unfolding gr712rc
leads_there k route h = h.port_is_there refl

pub named_there : (n : ℕ) (c : Call) (route : Route) → port_exists gr712rc.ports route ≡ true → route ≡ Port n c → n < 6
unfolding gr712rc
named_there n c route t e = let l : n < gr712rc.ports = ltb-true n gr712rc.ports (rw e at t) in omega arith

pub port_fits : (n size : ℕ) → n < 6 → 6 * size < 2 ^ 63 → Fits w64 (n * size)
port_fits n size l k = scaled_Fits n 6 size l k
