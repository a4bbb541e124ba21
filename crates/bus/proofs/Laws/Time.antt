-- What follows from the definitions of a step and of time, for every board. Assumes nothing.
use Rattle.std.specs.Prelude.{ℕ, zero, suc, ◌+◌, ◌≤◌, ◌≡◌, refl, Bool, true, false, cond, ◌||◌, List, [], ◌∷◌, ltb, length, get_or, set}
use Rattle.std.proofs.Common.{sym, ap, ◌∙◌, true≢false, zero-add, suc-add, arith}
use Rattle.std.specs.Int.Bits.{bit_or, or_zero_r, or_self}
use Rattle.std.proofs.lemmas.Nat.{or_comm}
use Rattle.devices.proofs.Laws.Cases.{same, tested}
use Rattle.devices.proofs.Laws.Word.{or_assoc}
use Rattle.devices.specs.Apbuart as uart
use Rattle.devices.specs.Apbuart.{Port}
use Rattle.devices.specs.Gptimer as gpt
use Rattle.devices.specs.Gptimer.{add_pulses, any_pulse}
use Rattle.devices.proofs.Laws.Gptimer.{skip_least}
use Rattle.devices.proofs.Laws.Gptimer.Pulses.{some_pulse, any_none, none_advance, adds_assoc}
use Rattle.devices.specs.Irqmp as irq
use Rattle.devices.proofs.Laws.Irqmp.{set_none, set_both}
use Rattle.devices.specs.declared.gptimer.Elapsed.{Elapsed}
use Rattle.bus.specs.Machine.{Machine, port_at, with_port, with_unit, with_irqmp, no_pulses, accepted}
use Rattle.bus.specs.Time.{lines_of, pulsed, rises, risen, step, stepped, cycle_pulses, cycle}
use Rattle.bus.specs.Time.{Passed, cycle_then, advance, skip}

-- No level rises where the ports stay, and no line is set without a pulse. So a step that leaves the ports alone sets nothing.
pub still : (b : Bool) → rises b b ≡ false
still true = refl
still false = refl

ports_still : (lines : List ℕ) (ps : List Port) → lines_of lines (risen ps ps) ≡ 0
ports_still [] ps = refl
ports_still (line ∷ lines) [] = refl
ports_still (line ∷ lines) (p ∷ ps) = rw (still p.level) (ports_still lines ps)

pub quiet_lines : (lines xs : List ℕ) → any_pulse xs ≡ false → lines_of lines (pulsed xs) ≡ 0
quiet_lines [] xs e = refl
quiet_lines (line ∷ lines) [] e = refl
quiet_lines (line ∷ lines) (x ∷ xs) e =
    tested (ltb 0 x) (λ t. absurd (true≢false (rw t at e))) (λ f. rw f (quiet_lines lines xs (rw f at e)))

pub quiet_step : (m after : Machine) → m.ports ≡ after.ports → step no_pulses m after ≡ after
quiet_step m after e =
    rw (
      ← e,
      ports_still m.board.lines.ports m.ports,
      quiet_lines m.board.lines.timers no_pulses refl,
      set_none after.irqmp,
    ) refl

pub quiet_answer :
    (value : ℕ) (m after : Machine) → m.ports ≡ after.ports → stepped m (accepted value after) ≡ accepted value after
quiet_answer value m after e = ap (accepted value) (quiet_step m after e)

-- A step that changes one port sets that port's line at most.
one_rise :
    (lines : List ℕ) (ps : List Port) (n : ℕ) (q : Port) → length lines ≤ length ps →
    lines_of lines (risen ps (set ps n q)) ≡ cond (rises (get_or ps n uart.reset_state).level q.level) (get_or lines n 0) 0
one_rise [] ps n q l = sym (same {A = ℕ} (rises (get_or ps n uart.reset_state).level q.level) 0)
one_rise (line ∷ lines) [] n q l = absurd (omega arith)
one_rise (line ∷ lines) (p ∷ ps) zero q l = rw (ports_still lines ps) (or_zero_r (cond (rises p.level q.level) line 0))
one_rise (line ∷ lines) (p ∷ ps) (suc n) q l = rw (still p.level) (one_rise lines ps n q (omega arith))

-- A machine with lines set.
abbrev set_lines : ℕ → Machine → Machine
set_lines lines m = with_irqmp (irq.set_pending lines m.irqmp).device m

pub port_step :
    (n : ℕ) (q : Port) (m : Machine) → length m.board.lines.ports ≤ length m.ports →
    step no_pulses m (with_port n q m) ≡
    set_lines (cond (rises (port_at n m).level q.level) (get_or m.board.lines.ports n 0) 0) (with_port n q m)
port_step n q m l =
    rw (quiet_lines m.board.lines.timers no_pulses refl, one_rise m.board.lines.ports m.ports n q l) refl

-- The lines of two spans' pulses together.
named_either : (b c : Bool) (line : ℕ) → cond (b || c) line 0 ≡ bit_or (cond b line 0) (cond c line 0)
named_either true true line = sym (or_self line)
named_either true false line = sym (or_zero_r line)
named_either false c line = refl

crossed : (a b c d : ℕ) → bit_or (bit_or a b) (bit_or c d) ≡ bit_or (bit_or a c) (bit_or b d)
crossed a b c d =
    or_assoc a b (bit_or c d) ∙
    ap (bit_or a) (sym (or_assoc b c d) ∙ ap (λ (x : ℕ). bit_or x d) (or_comm b c) ∙ or_assoc c b d) ∙
    sym (or_assoc a c (bit_or b d))

pulse_lines :
    (lines xs ys : List ℕ) →
    lines_of lines (pulsed (add_pulses xs ys)) ≡ bit_or (lines_of lines (pulsed xs)) (lines_of lines (pulsed ys))
pulse_lines [] xs ys = refl
pulse_lines (line ∷ lines) [] ys = refl
pulse_lines (line ∷ lines) (x ∷ xs) [] = sym (or_zero_r (lines_of (line ∷ lines) (pulsed (x ∷ xs))))
pulse_lines (line ∷ lines) (x ∷ xs) (y ∷ ys) =
    rw (some_pulse x y, named_either (ltb 0 x) (ltb 0 y) line, pulse_lines lines xs ys)
    (crossed (cond (ltb 0 x) line 0) (cond (ltb 0 y) line 0) (lines_of lines (pulsed xs)) (lines_of lines (pulsed ys)))

-- What a span of the timer unit is to the machine: the ports stay, and the lines of the timers that pulsed in it are set, once.
abbrev pub of_unit : Elapsed → Machine → Passed
of_unit e m =
    record {
      cycles = e.cycles;
      pulses = e.pulses;
      machine = set_lines (lines_of m.board.lines.timers (pulsed e.pulses)) (with_unit e.unit m);
    }

cycle_unit :
    (m : Machine) →
    cycle m ≡ set_lines (lines_of m.board.lines.timers (pulsed (cycle_pulses m))) (with_unit (gpt.cycle m.unit) m)
unfolding cycle
cycle_unit m = rw (ports_still m.board.lines.ports m.ports, or_zero_r) refl

-- n cycles of the machine are the timer unit's n cycles, and the lines of all that happened in them.
pub advance_unit : (n : ℕ) (m : Machine) → advance n m ≡ of_unit (gpt.advance n m.unit) m
unfolding advance gpt.advance
advance_unit zero m =
    rw (quiet_lines m.board.lines.timers (gpt.no_pulses m.unit.timers) (any_none m.unit.timers), set_none m.irqmp) refl
advance_unit (suc n) m =
    let later = (gpt.advance n (gpt.cycle m.unit)).pulses in
    let lines = m.board.lines.timers in
    rw (
      advance_unit n (cycle m),
      cycle_unit m,
      set_both (lines_of lines (pulsed (cycle_pulses m))) (lines_of lines (pulsed later)) m.irqmp,
      pulse_lines lines (cycle_pulses m) later,
    ) refl

-- A skip of the machine is an advance by the cycles that the unit's skip passes.
pub skip_advance : (n : ℕ) (m : Machine) → skip n m ≡ advance (gpt.skip n m.unit).cycles m
unfolding advance skip gpt.skip cycle
skip_advance zero m = refl
skip_advance (suc n) m =
    tested (any_pulse (cycle_pulses m)) (λ t. rw t refl) (λ f. rw f (ap (cycle_then m) (skip_advance n (cycle m))))

pub skip_unit : (n : ℕ) (m : Machine) → skip n m ≡ of_unit (gpt.skip n m.unit) m
skip_unit n m =
    skip_advance n m ∙ advance_unit (gpt.skip n m.unit).cycles m ∙
    ap (λ (e : Elapsed). of_unit e m) (sym (skip_least n m.unit).advances)

-- Time may be cut anywhere.
abbrev consecutive : Passed → Passed → Passed
consecutive p q =
    record { cycles = p.cycles + q.cycles; pulses = add_pulses p.pulses q.pulses; machine = q.machine }

pub advance_cut : (a b : ℕ) (m : Machine) → advance (a + b) m ≡ consecutive (advance a m) (advance b (advance a m).machine)
unfolding advance
advance_cut zero b m = rw (zero-add, zero-add, advance_unit b m, none_advance b m.unit) refl
advance_cut (suc a) b m = rw (suc-add, advance_cut a b (cycle m), suc-add, adds_assoc) refl
