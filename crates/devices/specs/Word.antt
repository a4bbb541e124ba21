-- Bits of a register.
use Rattle.std.specs.Prelude.{ℕ, ◌-◌, ◌/◌, ◌%◌, ◌^◌, Bool, ◌==◌, bit_and}

-- bit n of the word is 1
abbrev pub bit : ℕ → ℕ → Bool
bit n word = word / 2 ^ n % 2 == 1

-- a word of 32 bits, with 0 where another has 1
abbrev pub without : ℕ → ℕ → ℕ
without ones word = bit_and word (0xFFFFFFFF - ones)
