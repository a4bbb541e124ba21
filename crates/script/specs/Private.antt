-- What functions of the crate that are not public promise; no public contract cites this.
use Rattle.std.specs.Prelude.{ℕ, ◌+◌, ◌≡◌, Bool, cond, List, [], ◌∷◌, ◌++◌, get_or}
use Rattle.bus.specs.View.{machine_of}
use Rattle.bus.specs.declared.machine.Machine.{Machine}
use Rattle.script.specs.Number.{encoded}
use Rattle.script.specs.Run.{Ran}
use Rattle.script.specs.declared.entry.Part.{Part}

-- numbers of 8 bytes, one behind the other
abbrev pub longs : List ℕ → List ℕ
longs [] = []
longs (n ∷ ns) = encoded 8 n ++ longs ns

-- the first 8 bytes of a log record
abbrev pub first_long : (refusal : ℕ) (emitted : Bool) (byte levels value : ℕ) → List ℕ
first_long refusal emitted byte levels value =
    encoded 1 refusal ++ encoded 1 (cond emitted 1 0) ++ encoded 1 byte ++ encoded 1 levels ++ encoded 4 value

-- the six numbers of a log record
abbrev pub six_longs : (first cycles : ℕ) (pulses : List ℕ) → List ℕ
six_longs first cycles pulses = first ∷ cycles ∷ get_or pulses 0 0 ∷ get_or pulses 1 0 ∷ get_or pulses 2 0 ∷ get_or pulses 3 0 ∷ []

-- The machine that some records leave, and the log that they are written to.
pub record Played (d : Ran) (m : Machine) (bytes : List ℕ) : Type 0 where
  pub log : bytes ≡ d.log
  pub machine : machine_of m ≡ d.machine

-- the number of bytes of some fields of a log record
abbrev pub widths : List Part → ℕ
widths [] = 0
widths (p ∷ ps) = p.width + widths ps
