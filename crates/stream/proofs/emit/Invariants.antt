-- What is written is a part of the bytes.
use Rattle.std.proofs.Common.{◌≤◌, length}
use Rattle.stream.proofs.emit.Given as goal

abbrev pub invariant-loop : goal.invariant-loop
invariant-loop g l = l.count ≤ length l.bytes
