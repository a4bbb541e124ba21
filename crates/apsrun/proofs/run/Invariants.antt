-- The buffers keep their lengths, and there is room for a further piece's log.
use Rattle.std.proofs.Common.{◌+◌, ◌≡◌, ◌≤◌, length}
use Rattle.script.specs.Pieces.{piece_length, log_length}
use Rattle.apsrun.proofs.Buffers.{buffer_length}
use Rattle.apsrun.proofs.run.Given as goal

abbrev pub invariant-loop : goal.invariant-loop
invariant-loop l =
    (length l.script ≡ piece_length) × (length l.log ≡ buffer_length) × (l.end + log_length ≤ buffer_length)
