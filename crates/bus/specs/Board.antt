-- The windows and interrupt lines of a board: paper 01, "Windows", and paper 02, No. 4. The code's structs say no more than
-- the papers do, so the definitions are on those structs. A line is the word that has its bit.
use Rattle.std.specs.Prelude.{ℕ, ◌+◌, ◌^◌, Bool, true, cond, ◌&&◌, ◌||◌, List, [], ◌∷◌, nat_lt, nat_le, Option, Some, None}
use Rattle.bus.specs.declared.board.Device.{Device}
use Rattle.bus.specs.declared.board.Device.TheVariants.{Port, TimerUnit, Controller}
use Rattle.bus.specs.declared.board.Window.{Window}
use Rattle.bus.specs.declared.board.Board.{Board}

abbrev pub window : ℕ → ℕ → Device → Window
window base length device = record { base = base; length = length; device = device }

-- "| port 0 | 0x80000100 | 0x100 |", "| ports 1 to 5 | 0x80100100, 0x80100200, 0x80100300, 0x80100400, 0x80100500 | 0x100
-- each |", "| timer unit | 0x80000300 | 0x100 |"; 02: "Add the IRQMP .. at 0x80000200, length 0x100", "A pulse of timer n sets
-- pending line 7+n; a line level rising from 0 to 1 sets the port's line (2 for port 0, 16+p for ports 1 to 5)."
unfoldable pub gr712rc : Board
gr712rc =
    record {
      ports = 6;
      lines =
          record {
            ports = 2 ^ 2 ∷ 2 ^ 17 ∷ 2 ^ 18 ∷ 2 ^ 19 ∷ 2 ^ 20 ∷ 2 ^ 21 ∷ [];
            timers = 2 ^ 8 ∷ 2 ^ 9 ∷ 2 ^ 10 ∷ 2 ^ 11 ∷ [];
          };
      windows =
          window 0x80000100 0x100 (Port 0) ∷
          window 0x80100100 0x100 (Port 1) ∷
          window 0x80100200 0x100 (Port 2) ∷
          window 0x80100300 0x100 (Port 3) ∷
          window 0x80100400 0x100 (Port 4) ∷
          window 0x80100500 0x100 (Port 5) ∷
          window 0x80000300 0x100 TimerUnit ∷
          window 0x80000200 0x100 Controller ∷
          [];
    }

-- the first address behind a window
abbrev pub end : Window → ℕ
end w = w.base + w.length

-- the address lies in the window
abbrev pub holds : ℕ → Window → Bool
holds address w = nat_le w.base address && nat_lt address (end w)

-- the window of the table that the address lies in, if it lies in one
abbrev pub window_at : ℕ → List Window → Option Window
window_at address [] = None
window_at address (w ∷ ws) = cond (holds address w) (Some w) (window_at address ws)

-- No two windows of a table overlap.
abbrev pub apart : Window → Window → Bool
apart v w = nat_le (end v) w.base || nat_le (end w) v.base

abbrev pub apart_from : Window → List Window → Bool
apart_from v [] = true
apart_from v (w ∷ ws) = apart v w && apart_from v ws

abbrev pub all_apart : List Window → Bool
all_apart [] = true
all_apart (w ∷ ws) = apart_from w ws && all_apart ws

-- Each window of a port is one of a port that the board has.
abbrev pub is_there : ℕ → Device → Bool
is_there ports (Port n) = nat_lt n ports
is_there ports TimerUnit = true
is_there ports Controller = true

abbrev pub all_there : ℕ → List Window → Bool
all_there ports [] = true
all_there ports (w ∷ ws) = is_there ports w.device && all_there ports ws
