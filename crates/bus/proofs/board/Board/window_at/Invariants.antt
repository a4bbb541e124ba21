-- The loop counts down: what is found so far is in the windows from its place on. Assumes nothing.
use Rattle.std.proofs.Common.{◌≡◌, ◌≤◌, length, drop}
use Rattle.bus.specs.Board.{window_at}
use Rattle.bus.proofs.board.Board.window_at.Given as goal

abbrev pub invariant-loop-i : goal.invariant-loop-i
invariant-loop-i l =
    (length l.self.windows ≡ 8) × (l.i ≤ 8) × (l.found ≡ window_at l.address (drop l.i l.self.windows))
