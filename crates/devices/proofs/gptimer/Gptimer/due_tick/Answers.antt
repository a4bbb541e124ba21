-- Each end follows from the step by which it was reached. Assumes nothing.
use Rattle.std.proofs.Common.{rules}
use borrow.Author.Tests.{not-true, not-false}
use Rattle.devices.proofs.gptimer.Spans.{step_chained, step_free, step_none, step_later}
use Rattle.devices.proofs.gptimer.Gptimer.due_tick.Goals as goal

pub returns-then-not-timer : goal.returns-then-not-timer
returns-then-not-timer c = search (step_free, not-true)

pub loop-place-preserved : goal.loop-place-preserved
loop-place-preserved c = search (step_chained, step_later, not-false, rules)

pub returns : goal.returns
returns c = search step_none
