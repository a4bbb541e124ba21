-- The controller after a step, from what the code tested. Assumes nothing.
use Prim.Native.Nat.{ℕ, ◌≤◌}
use mathlib.Core.Path.{◌≡◌, refl, sym}
use mathlib.Core.Bool.{Bool, true, false, cond}
use mathlib.Core.List.{List}
use native.Mathlib.Omega.{arith}
use lib.ListN.{get_or, get_or-eq_default}
use Rattle.devices.specs.Irqmp as irq
use Rattle.devices.proofs.Laws.Irqmp.{set_none}
use Rattle.devices.specs.declared.irqmp.Irqmp.{Irqmp}
use Rattle.devices.specs.Answer.View.{answer_of}
use Rattle.devices.specs.declared.answer.Answer as own
use Rattle.bus.specs.Board.{gr712rc}
use Rattle.bus.specs.Time.{lines_of, pulsed, rises}

module _ (n : ℕ) (before after : Bool) (c : Irqmp) where
  pub stays_high :
      before ≡ true → c ≡ (irq.set_pending (cond (rises before after) (get_or gr712rc.lines.ports n 0) 0) c).device
  stays_high t = rw t (sym (set_none c))

  pub stays_low :
      before ≡ false → after ≡ false →
      c ≡ (irq.set_pending (cond (rises before after) (get_or gr712rc.lines.ports n 0) 0) c).device
  stays_low t u = rw (t, u) (sym (set_none c))

  pub rose :
      (x : own.Answer Irqmp ℕ) → before ≡ false → after ≡ true → answer_of x ≡ irq.set_pending (get_or gr712rc.lines.ports n 0) c →
      x.device ≡ (irq.set_pending (cond (rises before after) (get_or gr712rc.lines.ports n 0) 0) c).device
  rose x t u e = rw (t, u, ← e) refl

  pub not_there :
      before ≡ false → after ≡ true → 6 ≤ n →
      c ≡ (irq.set_pending (cond (rises before after) (get_or gr712rc.lines.ports n 0) 0) c).device
  unfolding gr712rc
  not_there t u l =
      let none : get_or gr712rc.lines.ports n 0 ≡ 0 = get_or-eq_default gr712rc.lines.ports 0 {n = n} (omega arith) in
      rw (t, u, none) (sym (set_none c))

module _ (pulses : List ℕ) (c : Irqmp) (lines : ℕ) (e : lines ≡ lines_of gr712rc.lines.timers (pulsed pulses)) where
  pub none_pulsed :
      lines ≡ 0 → c ≡ (irq.set_pending (lines_of gr712rc.lines.timers (pulsed pulses)) c).device
  none_pulsed z = rw (← e, z) (sym (set_none c))

  pub some_pulsed :
      (x : own.Answer Irqmp ℕ) → answer_of x ≡ irq.set_pending lines c →
      x.device ≡ (irq.set_pending (lines_of gr712rc.lines.timers (pulsed pulses)) c).device
  some_pulsed x f = rw (← e, ← f) refl

pub ruleset setting = (stays_high, stays_low, not_there)
