-- Each step from the last port down joins one level. Assumes nothing.
use Rattle.std.proofs.Common.{rules}
use Rattle.devices.proofs.Laws.Lists.{length_of}
use Rattle.bus.proofs.machine.Ports.{levels_none, levels_double, levels_join, levels_more}
use Rattle.bus.proofs.machine.Machine.levels.Goals as goal

pub loop-i-init : goal.loop-i-init
loop-i-init c = (search (length_of, rules), search rules, search (levels_none, length_of))

pub overflow_mul-levels : goal.overflow_mul-levels
overflow_mul-levels c = search levels_double

pub overflow_add-levels : goal.overflow_add-levels
overflow_add-levels c = search levels_join

pub loop-i-preserved : goal.loop-i-preserved
loop-i-preserved c = (search rules, search rules, search levels_more)
