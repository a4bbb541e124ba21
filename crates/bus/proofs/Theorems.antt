-- What is claimed of a single call on a machine, for the demands on the model (README.md); what is claimed of lists of calls,
-- script records among them, stands in the scripts (Theorems.antt there). Most claims are about any answers and machines that
-- meet the calls' contracts (`Conforms`, View.antt), so about what the code promises; the last ones are about the definitions.
-- Assumes nothing.
use Rattle.std.specs.Prelude.{ℕ, zero, suc, ◌<◌, ◌≡◌, refl, Bool, true, false, cond, not, ◌&&◌, List, [], ◌∷◌, ◌==◌, nat_le, length, get_or, Some}
use Rattle.std.proofs.Common.{sym, ap, ◌∙◌, arith}
use Rattle.devices.specs.declared.irqmp.Irqmp.{Irqmp}
use Rattle.devices.specs.declared.gptimer.Gptimer.{Gptimer}
use Rattle.devices.specs.Refusal.{not_refused, ill_formed, no_register}
use Rattle.devices.proofs.Laws.Register.{ByOffset}
use Rattle.devices.specs.Apbuart as uart
use Rattle.devices.proofs.Laws.Apbuart as port
use Rattle.devices.specs.Gptimer as gpt
use Rattle.devices.proofs.Laws.Gptimer as unit'
use Rattle.devices.proofs.Laws.Gptimer.{Least, skip_least}
use Rattle.devices.specs.Irqmp as irq
use Rattle.devices.proofs.Laws.Irqmp as controller'
use Rattle.devices.specs.Answer as devices
use Rattle.devices.specs.declared.gptimer.Elapsed.{Elapsed}
use Rattle.bus.specs.Board.{gr712rc, holds, all_apart, all_there}
use Rattle.bus.proofs.Laws.Board.{one_window}
use Rattle.bus.specs.Machine as bus
use Rattle.bus.specs.Machine.{well_formed}
use Rattle.bus.specs.Time.{advance, of_span}
use Rattle.bus.proofs.Laws.Time.{skip_advance, skip_unit}
use Rattle.bus.specs.Call.{◌when◌, first, byte_for, table, refusal, window_of, subject}
use Rattle.bus.proofs.Laws.Call as laws
use Rattle.bus.proofs.Laws.Call.{none_given}
use Rattle.bus.specs.View.{machine_of, answer_of, Conforms}
use Rattle.bus.specs.declared.board.Window.{Window}
use Rattle.bus.specs.declared.machine.Machine.{Machine}
use Rattle.bus.specs.declared.machine.Answer.{Answer}
use Rattle.bus.specs.declared.machine.Call.{Call}
use Rattle.bus.specs.declared.machine.Call.TheVariants.{Skip}

-- "An idle skip takes a limit and passes the fewest cycles, one or more, whose last has a pulse; if there is none within
-- the limit it passes the limit." It answers as an advance of the machine by the cycles of a span of its timer unit of which this
-- is true (`Least`, Gptimer/Laws.antt of the devices), with that span's pulses.
pub skip_claim :
    {m : Machine} {limit : ℕ} {a : Answer} → well_formed (machine_of m) ≡ true → Conforms m (Skip limit) a →
    (e : Elapsed) × (answer_of a ≡ of_span (advance e.cycles (machine_of m))) × (a.pulses ≡ e.pulses) ×
    Least limit m.unit e
skip_claim {m} {limit} w h =
    let n = machine_of m in
    let skipped = h.answer ∙ laws.skip_well n w limit in (
      gpt.skip limit m.unit,
      skipped ∙ ap of_span (skip_advance limit n),
      ap (λ (x : bus.Answer). x.pulses) (skipped ∙ ap of_span (skip_unit limit n)),
      skip_least limit m.unit,
    )

-- A call neither makes nor repairs an ill-formed machine.
pub well_claim :
    {m : Machine} {c : Call} {a : Answer} → Conforms m c a →
    well_formed (machine_of a.machine) ≡ well_formed (machine_of m)
well_claim {m} {c} h = ap (λ (x : bus.Answer). well_formed x.machine) h.answer ∙ laws.answer_keeps c (machine_of m)

-- "Every call on a machine is subject to 9, reset too." "An ill-formed machine comes back alike in every field."
pub ill_claim :
    {m : Machine} {c : Call} {a : Answer} → Conforms m c a → well_formed (machine_of m) ≡ false →
    (a.refusal ≡ ill_formed) × (a.machine ≡ m)
ill_claim {m} {c} {a} h ill =
    let nine : a.refusal ≡ ill_formed =
    ap (λ (x : bus.Answer). x.refusal) (h.answer ∙ laws.ill_refused c (machine_of m) ill) in
    (nine, h.same (λ z. let both : ill_formed ≡ not_refused = sym nine ∙ z in absurd (omega arith)))

-- Demand 2: a call is refused under the table's condition and no other. Its number is the table's, and it is accepted exactly
-- if no condition of the table holds.
pub number_claim :
    {m : Machine} {c : Call} {a : Answer} → Conforms m c a →
    a.refusal ≡ refusal (subject c (machine_of m)) (machine_of m)
number_claim {m} {c} h = ap (λ (x : bus.Answer). x.refusal) h.answer ∙ laws.answer_number c (machine_of m)

pub accepted_claim :
    {m : Machine} {c : Call} {a : Answer} → Conforms m c a →
    (a.refusal == not_refused) ≡ none_given (table (subject c (machine_of m)) (machine_of m))
accepted_claim {m} {c} h = rw (number_claim h) (laws.refusal_none (subject c (machine_of m)) (machine_of m))

-- Demand 1: a refusal changes nothing. "A refusal returns the same machine, value 0, no emitted byte, 0 cycles and four pulse
-- counts of 0", and the levels as they are.
pub refusal_claim :
    {m : Machine} {c : Call} {a : Answer} → Conforms m c a → (a.refusal ≡ not_refused → ⊥) →
    (answer_of a ≡ bus.refused a.refusal (machine_of m)) × (a.machine ≡ m)
refusal_claim {m} {c} {a} h refused =
    (h.answer ∙ laws.answer_refused c (machine_of m) a.refusal (number_claim h) refused, h.same refused)

-- Of the definitions: what the table accepts, the device accepts too, and it refuses as the table does, by the same number. So
-- nothing is lost where an accepted call's answer leaves out the device's own number. What the table's line for 13 gives, by
-- whether the offset has a register:
abbrev pub line13 : (has : Bool) → ℕ
line13 has = first (no_register when not has ∷ [])

number_13 : {A : Type 0} (number : A → ℕ) (none : A) (has : Bool) (a : A) → number none ≡ no_register →
    ByOffset (λ x. number x ≡ not_refused) none has a → number a ≡ line13 has
number_13 number none true a e h = h.there refl
number_13 number none false a e h = ap number (h.lacking refl) ∙ e

pub port_claim :
    (m : bus.Machine) (n offset value byte : ℕ) → well_formed m ≡ true →
    ((uart.read offset (bus.port_at n m)).refusal ≡ line13 (uart.has_register offset)) ×
    ((uart.write offset value (bus.port_at n m)).refusal ≡ line13 (uart.has_register offset)) ×
    (nat_le m.board.ports n ≡ false → (uart.offer byte (bus.port_at n m)).refusal ≡ refusal (byte_for n) m)
port_claim m n offset value byte w =
    let sound = laws.well_at m.ports n (laws.well_ports_lem m w) in
    let number : uart.Answer → ℕ = λ a. a.refusal in (
      number_13 number _ _ _ refl (port.read_by_offset (bus.port_at n m) sound offset),
      number_13 number _ _ _ refl (port.write_by_offset (bus.port_at n m) sound offset value),
      λ there. sym (laws.offer_number n byte m w there),
    )

pub unit_claim :
    (m : bus.Machine) (offset value : ℕ) →
    ((gpt.read offset m.unit).refusal ≡ line13 (gpt.has_register offset)) ×
    ((gpt.write offset value m.unit).refusal ≡ line13 (gpt.has_register offset))
unit_claim m offset value =
    let number : devices.Answer Gptimer → ℕ = λ a. a.refusal in (
      number_13 number _ _ _ refl (unit'.read_by_offset offset m.unit),
      number_13 number _ _ _ refl (unit'.write_by_offset offset value m.unit),
    )

-- The controller accepts an acknowledge too, and the lines that a step sets.
pub controller_claim :
    (m : bus.Machine) (offset value lines : ℕ) → well_formed m ≡ true →
    ((irq.read offset m.irqmp).refusal ≡ line13 (irq.has_register offset)) ×
    ((irq.write offset value m.irqmp).refusal ≡ line13 (irq.has_register offset)) ×
    ((irq.acknowledge m.irqmp).refusal ≡ not_refused) ×
    ((irq.set_pending lines m.irqmp).refusal ≡ not_refused)
controller_claim m offset value lines w =
    let sound = laws.well_irqmp m w in
    let number : devices.Answer Irqmp → ℕ = λ a. a.refusal in (
      number_13 number _ _ _ refl (controller'.read_by_offset m.irqmp sound offset),
      number_13 number _ _ _ refl (controller'.write_by_offset m.irqmp sound offset value),
      controller'.acknowledge_accepted m.irqmp sound,
      controller'.set_accepted m.irqmp sound lines,
    )

-- Of the devices' lists of registers, by one computed test: which of the first 0x100 offsets have one.
abbrev pub offsets_with : (has : ℕ → Bool) (from count : ℕ) → List ℕ
offsets_with has from zero = []
offsets_with has from (suc n) = cond (has from) (from ∷ offsets_with has (suc from) n) (offsets_with has (suc from) n)

pub register_claim :
    (offsets_with uart.has_register 0 0x100 ≡ 0x00 ∷ 0x04 ∷ 0x08 ∷ 0x0C ∷ []) ×
    (offsets_with gpt.has_register 0 0x100 ≡
    0x00 ∷ 0x04 ∷ 0x08 ∷ 0x10 ∷ 0x14 ∷ 0x18 ∷ 0x20 ∷ 0x24 ∷ 0x28 ∷ 0x30 ∷ 0x34 ∷ 0x38 ∷ 0x40 ∷ 0x44 ∷ 0x48 ∷ []) ×
    (offsets_with irq.has_register 0 0x100 ≡ 0x00 ∷ 0x04 ∷ 0x08 ∷ 0x0C ∷ 0x40 ∷ 0xC0 ∷ [])
register_claim = (refl, refl, refl)

-- Of the board's table, by one computed test: no two windows overlap, each window of a port is one of a port that the board
-- has, and its machine at reset has each of those ports.
pub board_claim :
    (m : Machine) →
    (let b = (machine_of m).board in
    (all_apart b.windows && all_there b.ports b.windows && nat_le b.ports (length (bus.reset_state b).ports)) ≡ true)
unfolding gr712rc
board_claim m = refl

-- So an address lies in one window at most: any window of a table without overlaps that holds it is the one that is reached.
pub window_claim :
    (m : bus.Machine) (address i : ℕ) (z : Window) → all_apart m.board.windows ≡ true → i < length m.board.windows →
    holds address (get_or m.board.windows i z) ≡ true → window_of address m ≡ Some (get_or m.board.windows i z)
window_claim m = one_window m.board.windows
