-- By what the words are of the definition's lines. Assumes nothing.
use Rattle.devices.proofs.Laws.Irqmp.Words.{extended_by}
use Rattle.devices.proofs.irqmp.Irqmp.extended_line.Goals as goal

pub returns : goal.returns
returns c = search extended_by
