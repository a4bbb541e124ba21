-- The loop counts down: the lines so far are those of the timers from its place on. Assumes nothing.
use Rattle.std.proofs.Common.{◌≡◌, ◌≤◌, length, drop}
use Rattle.bus.specs.Time.{lines_of, pulsed}
use Rattle.bus.proofs.board.Lines.of_pulses.Given as goal

abbrev pub invariant-loop-i : goal.invariant-loop-i
invariant-loop-i l =
    (length l.self.timers ≡ 4) × (length l.pulses ≡ 4) × (l.i ≤ 4) ×
    (l.lines ≡ lines_of (drop l.i l.self.timers) (pulsed (drop l.i l.pulses)))
