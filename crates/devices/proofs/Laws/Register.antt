-- What an access answers by its offset, for a device whose answers are of any type. Assumes nothing.
use Rattle.std.specs.Prelude.{◌≡◌, Bool, true, false, cond, ◌&&◌, ◌||◌, refl}
use Rattle.std.proofs.Common.{sym, true≢false}

-- Where the offset has a register, P is true of the answer; where it has none, the answer is `none`.
pub record ByOffset {A : Type 0} (P : A → Type 0) (none : A) (has : Bool) (a : A) : Type 0 where
  pub there : has ≡ true → P a
  pub lacking : has ≡ false → a ≡ none

module _ {A : Type 0} (P : A → Type 0) (none : A) where
  -- Behind the last register of a chain of tests,
  pub no_register_lem : ByOffset P none false none
  no_register_lem = record { there = λ t. absurd (true≢false (sym t)); lacking = λ e. refl }

  -- at a register of the chain, or further along it,
  pub register : (is has : Bool) (x y : A) → P x → ByOffset P none has y → ByOffset P none (is || has) (cond is x y)
  register true has x y p h = record { there = λ t. p; lacking = λ e. absurd (true≢false e) }
  register false has x y p h = h

  -- and in a block of registers, where the block is there.
  pub block : (is has : Bool) (y : A) → ByOffset P none has y → ByOffset P none (is && has) (cond is y none)
  block true has y h = h
  block false has y h = no_register_lem

  -- An answer that P is not true of is `none`.
  pub otherwise : (has : Bool) (a : A) → ByOffset P none has a → (P a → ⊥) → a ≡ none
  otherwise true a h differs = absurd (differs (h.there refl))
  otherwise false a h differs = h.lacking refl

pub ruleset by_offset = (no_register_lem, register, block)
