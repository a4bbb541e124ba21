-- The loop counts down: the number so far is that of the ports from its place on. Assumes nothing.
use Rattle.std.proofs.Common.{◌≡◌, ◌≤◌, length, drop, map}
use Rattle.devices.specs.Apbuart.View.{port_of}
use Rattle.bus.specs.Machine.{levels_of}
use Rattle.bus.proofs.machine.Machine.levels.Given as goal

abbrev pub invariant-loop-i : goal.invariant-loop-i
invariant-loop-i l =
    (length l.self.ports ≡ 6) × (l.i ≤ 6) × (l.levels ≡ levels_of (map port_of (drop l.i l.self.ports)))
