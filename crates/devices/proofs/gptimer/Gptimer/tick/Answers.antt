-- The four timers, one after the other. Assumes nothing.
use Rattle.std.proofs.Common.{◌≡◌, length, rules}
use Rattle.devices.proofs.Laws.Lists.{length_of}
use Rattle.devices.proofs.gptimer.Spans.{ticks_by}
use Rattle.devices.proofs.gptimer.Gptimer.tick.Goals as goal

pub returns : goal.returns
returns c =
    let whole : length c.args.self.timers ≡ 4 = search (length_of, rules) in
    ticks_by _ _ c.args.self _ _ _ _ whole c.count-first.ensures
    c.serve-second.ensures c.serve-third.ensures c.serve-fourth.ensures
