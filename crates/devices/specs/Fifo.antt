-- What of a `Fifo` counts: the bytes that wait, oldest first.
use Rattle.std.specs.Prelude.{ℕ, zero, suc, ◌%◌, List, [], ◌∷◌, slice_index}
use Rattle.devices.specs.Apbuart.{depth}
use Rattle.devices.specs.declared.fifo.Fifo.{Fifo}

-- `count` bytes of a ring of `d` places, from the head on
abbrev pub ring : ℕ → List ℕ → ℕ → ℕ → List ℕ
ring d places head zero = []
ring d places head (suc count) = slice_index places (head % d) ∷ ring d places (suc head) count

abbrev pub queued : Fifo → List ℕ
queued f = ring depth f.places f.head f.count
