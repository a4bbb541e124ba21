-- With the levels of the machine. Assumes nothing.
use Rattle.script.proofs.entry.Longs.{whole_entry}
use Rattle.script.proofs.entry.put.Goals as goal

pub returns : goal.returns
returns c = search whole_entry
