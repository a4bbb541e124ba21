-- What functions of the crate that are not public promise; no public contract cites this.
use Rattle.std.specs.Prelude.{ℕ, ◌≡◌, ◌-◌, ◌%◌, cond, not, ◌||◌, ◌==◌, nat_le, Option, Some, None, Result, Ok, Err}
use Rattle.devices.specs.declared.apbuart.Call.TheVariants as port
use Rattle.devices.specs.Refusal.{not_refused}
use Rattle.bus.specs.Call.{is_size, runs_past}
use Rattle.bus.specs.Route.{replied, carried_out}
use Rattle.bus.specs.View.{machine_of}
use Rattle.bus.specs.declared.machine.Machine.{Machine}
use Rattle.bus.specs.declared.reply.Reply.{Reply}
use Rattle.bus.specs.declared.refusal.Refusal.{Refusal}
use Rattle.bus.specs.declared.refusal.Refusal.TheVariants.{BadSize, NoWindow, PastWindow, Misaligned, NotAWord, NoPort}
use Rattle.bus.specs.declared.board.Device.{Device}
use Rattle.bus.specs.declared.board.Device.TheVariants as device
use Rattle.bus.specs.declared.board.Window.{Window}
use Rattle.bus.specs.declared.board.Board.{Board}
use Rattle.bus.specs.declared.route.Route.{Route}
use Rattle.bus.specs.declared.route.Route.TheVariants.{Refused, Port, Read, Write}
use Rattle.bus.specs.declared.route.Core.TheVariants as core

-- 3 and 4 of the table, in that order, of an access in a window, and then 5
abbrev pub placed : (address size : ℕ) → Window → Result (Unit {0}) Refusal → Result (Unit {0}) Refusal
placed address size w otherwise =
    cond (runs_past address size (Some w)) (Err PastWindow)
    (cond (not (address % size == 0)) (Err Misaligned) otherwise)

abbrev pub judged : (address size : ℕ) → Window → Result (Unit {0}) Refusal
judged address size w = placed address size w (cond (size == 1 || size == 2) (Err NotAWord) (Ok tt))

-- the route of an access of a device
abbrev pub read_route : Device → ℕ → Route
read_route (device.Port n) offset = Port n (port.Read offset)
read_route device.TimerUnit offset = Read offset core.TimerUnit
read_route device.Controller offset = Read offset core.Controller

abbrev pub write_route : ℕ → Device → ℕ → Route
write_route value (device.Port n) offset = Port n (port.Write offset value)
write_route value device.TimerUnit offset = Write offset value core.TimerUnit
write_route value device.Controller offset = Write offset value core.Controller

-- that of an access: 1, then 2, then 3 to 5, then the device of the window
abbrev pub own_unless : Result (Unit {0}) Refusal → Route → Route
own_unless (Ok nothing) route = route
own_unless (Err refusal) route = Refused refusal

abbrev pub window_route : (Device → ℕ → Route) → (address size : ℕ) → Option Window → Route
window_route own address size None = Refused NoWindow
window_route own address size (Some w) = own_unless (judged address size w) (own w.device (address - w.base))

abbrev pub access_route : (Device → ℕ → Route) → (address size : ℕ) → Option Window → Route
access_route own address size found = cond (is_size size) (window_route own address size found) (Refused BadSize)

abbrev pub offer_route : Board → ℕ → ℕ → Route
offer_route b n byte = cond (nat_le b.ports n) (Refused NoPort) (Port n (port.Offer byte))

-- The reply `r` and the machine `after` are what the route answers on the machine `before`, and a route that is refused leaves the
-- machine as it was, in every field.
pub record CarriesOut (route : Route) (before : Machine) (r : Reply) (after : Machine) : Type 0 where
  pub answer : replied r (machine_of after) ≡ carried_out route (machine_of before)
  pub same : (r.refusal ≡ not_refused → ⊥) → after ≡ before
