-- What a piece logs ends in the part of the log that it is lent, and so within the buffer. Assumes nothing.
use Rattle.std.proofs.Common.{rules}
use Rattle.apsrun.proofs.Buffers.{logged_fits, end_fits}
use Rattle.apsrun.proofs.run.Goals as goal

pub overflow_mul-end : goal.overflow_mul-end
overflow_mul-end c = search (logged_fits, rules)

pub overflow_add-end : goal.overflow_add-end
overflow_add-end c = search (end_fits, rules)
