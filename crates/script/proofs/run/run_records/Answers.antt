-- By the test for 9. Assumes nothing.
use Rattle.script.proofs.run.Runs.{records_done}
use Rattle.script.proofs.run.run_records.Goals as goal

pub returns : goal.returns
returns c = search records_done
