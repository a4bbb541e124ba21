-- By the log. Assumes nothing.
use Rattle.compare.proofs.Laws.Verdict.{unreadable_refused}
use Rattle.compare.proofs.verdict.Verdict.unreadable.Goals as goal

pub returns : goal.returns
returns c = rw c.number.ensures (unreadable_refused c.args.log)
