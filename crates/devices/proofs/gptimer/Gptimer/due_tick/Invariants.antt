-- From a timer up its chain: the tick that is sought is that at which the timer before `place` underflows for the `due`-th
-- time. Assumes nothing.
use Rattle.std.proofs.Common.{◌≡◌, ◌<◌}
use Rattle.devices.specs.Gptimer.Direct as direct
use Rattle.devices.proofs.gptimer.Gptimer.due_tick.Given as goal

abbrev pub invariant-loop-place : goal.invariant-loop-place
invariant-loop-place l = (0 < l.due) × (direct.due_tick l.self.timers l.place l.due ≡ direct.due_tick l.self.timers l.n l.j)
