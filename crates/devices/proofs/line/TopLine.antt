-- The highest line of a word, by the zeros above its highest bit. Assumes nothing.
use Rattle.std.proofs.Common.{◌≡◌, ℕ, zero, suc, ◌+◌, ◌-◌, ◌^◌, ◌<◌, ◌≤◌, refl, arith}
use lib.Count.{count_leading_zeros, leading_top}
use Rattle.devices.specs.Irqmp as irq
use Rattle.devices.specs.Irqmp.Words.{highest_in}
use Rattle.devices.proofs.Laws.Irqmp.Words.{highest_top}

-- Bit 0 is no line.
pub none_below : (word : ℕ) → word < 2 → 0 ≡ highest_in word
unfolding irq.highest
none_below zero l = refl
none_below (suc zero) l = refl
none_below (suc (suc word)) l = absurd (omega arith)

pub zeros_fit : (word : ℕ) → 2 ≤ word → word < 2 ^ 32 → count_leading_zeros 32 word < 31
zeros_fit word some fits =
    let top = leading_top 32 word (omega arith) fits in above top.0 top.1 top.3
  where
    above : (j : ℕ) → count_leading_zeros 32 word + suc j ≡ 32 → word < 2 ^ suc j → count_leading_zeros 32 word < 31
    above zero e h = absurd (omega arith)
    above (suc j) e h = omega arith

pub found : (word : ℕ) → 2 ≤ word → word < 2 ^ 32 → 31 - count_leading_zeros 32 word ≡ highest_in word
found word some fits = highest_top word (omega arith) fits

pub ruleset top_line = (none_below, zeros_fit, found)
