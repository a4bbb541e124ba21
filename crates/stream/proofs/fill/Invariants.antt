-- What is read is a part of the buffer.
use Rattle.std.proofs.Common.{◌≤◌, length}
use Rattle.stream.proofs.fill.Given as goal

abbrev pub invariant-loop : goal.invariant-loop
invariant-loop g l = l.count ≤ length l.buffer
