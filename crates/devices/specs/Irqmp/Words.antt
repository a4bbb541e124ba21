-- How the code finds lines, in words and by their highest bit. That they are the lines of the definitions is proved in
-- proofs/Laws/Irqmp/Words.antt.
use Rattle.std.specs.Prelude.{ℕ, Option, Some, None, ◌^◌, cond, ◌==◌}
use Rattle.std.specs.Int.Bits.{bit_and, bit_or}
use Rattle.devices.specs.Word.{bit}
use Rattle.devices.specs.Irqmp.{lines_1_to_15, highest, extended_line}
use Rattle.devices.specs.declared.irqmp.Irqmp.{Irqmp}

-- a line by its number; 0 stands for none
abbrev pub number_or_0 : Option ℕ → ℕ
number_or_0 None = 0
number_or_0 (Some number) = number

-- the highest line of a word
abbrev pub highest_in : ℕ → ℕ
highest_in word = highest 31 (λ n. bit n word)

-- the word of the extended lines
abbrev pub extended_lines : ℕ
extended_lines = 0xFFFF0000

-- the lines that wait, and those of 1 to 15 that reach the processor
abbrev pub waiting : Irqmp → ℕ
waiting c = bit_and (bit_or c.pending c.force) c.mask

abbrev pub reaching : Irqmp → ℕ
reaching c =
    cond (extended_line c == 0) (bit_and (waiting c) lines_1_to_15) (bit_or (bit_and (waiting c) lines_1_to_15) (2 ^ 12))
