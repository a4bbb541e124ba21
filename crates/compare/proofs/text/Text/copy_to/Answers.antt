-- What is put, and what stays behind it. Assumes nothing.
use Rattle.std.proofs.Common.{rules}
use Rattle.script.specs.Buffer.{wrote}
use Rattle.compare.proofs.text.Text.copy_to.Goals as goal

pub returns-clause-written : goal.returns-clause-written
unfolding wrote
returns-clause-written c = search rules
