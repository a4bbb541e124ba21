-- A call on a machine by value, from what its reply says and the machine that is left. Assumes nothing.
use Prim.Native.Nat.{ℕ}
use mathlib.Core.Path.{◌≡◌, refl, sym, ap, ◌∙◌}
use mathlib.Core.Bool.{Bool, true, false}
use Rattle.devices.specs.Refusal.{ill_formed}
use Rattle.bus.specs.Board.{gr712rc}
use Rattle.bus.specs.Machine as bus
use Rattle.bus.proofs.Laws.Call.{ill_refused, answer_keeps}
use Rattle.bus.specs.Route.{replied, Leads}
use Rattle.bus.specs.View.{machine_of, Conforms, Replies}
use Rattle.bus.specs.Private.{CarriesOut}
use Rattle.bus.specs.declared.machine.Machine.{Machine}
use Rattle.bus.specs.declared.machine.Answer.{Answer}
use Rattle.bus.specs.declared.machine.Call.{Call}
use Rattle.bus.specs.declared.reply.Reply.{Reply}
use Rattle.bus.specs.declared.route.Route.{Route}

-- The answer that the code makes of a reply, of the line levels and of the machine after the call.
abbrev made : Reply → ℕ → Machine → Answer
made r levels next =
    record {
      refusal = r.refusal;
      emitted = r.emitted;
      levels = levels;
      value = r.value;
      cycles = r.cycles;
      pulses = r.pulses;
      machine = next;
    }

-- By the test for 9.
module _ {m next : Machine} {k : Call} {r : Reply} {b : Bool} (e : b ≡ bus.well_formed (machine_of m)) where
  pub well_replied : {route : Route} → b ≡ true → Leads gr712rc k route → CarriesOut route m r next → Replies m k r next
  well_replied t led carried =
      record { answer = carried.answer ∙ sym (led.answers (machine_of m) refl (sym e ∙ t)); same = carried.same }

  pub ill_replied : b ≡ false → replied r ≡ bus.refused ill_formed → next ≡ m → Replies m k r next
  ill_replied t says left =
      let whole : replied r (machine_of m) ≡ bus.refused ill_formed (machine_of m) = ap (λ f. f (machine_of m)) says in
      record { answer = rw left (whole ∙ sym (ill_refused k (machine_of m) (sym e ∙ t))); same = λ refused. left }

-- No call makes an ill-formed machine.
pub stays_well :
    (m next : Machine) (k : Call) (r : Reply) → bus.well_formed (machine_of m) ≡ true → Replies m k r next →
    bus.well_formed (machine_of next) ≡ true
stays_well m next k r well says =
    ap (λ (a : bus.Answer). bus.well_formed a.machine) says.answer ∙ answer_keeps k (machine_of m) ∙ well

-- The answer made of what is kept of the reply, and of the machine after the call.
pub answered :
    {m next : Machine} {k : Call} {reply r : Reply} {levels : ℕ} → levels ≡ bus.levels (machine_of next) → reply ≡ r →
    Replies m k r next → Conforms m k (made reply levels next)
answered l kept says = rw kept (record { answer = rw l says.answer; same = says.same })
