-- What is held is a part of the window.
use Rattle.std.proofs.Common.{◌≤◌, length}
use Rattle.aplcmp.proofs.Source.read_rest.Given as goal

abbrev pub invariant-loop : goal.invariant-loop
invariant-loop l = l.count ≤ length l.window
