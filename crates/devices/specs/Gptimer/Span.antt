-- What an advance or a skip means that is given as a value of the code's enum, and what the unit tells of one beforehand.
use Rattle.std.specs.Prelude.{◌≡◌, ℕ, Option, Some, None, zero, suc, Bool, true, false, ◌||◌, [], ◌∷◌, ◌==◌}
use Rattle.devices.specs.Gptimer.{advance, skip, cycle, with_scaler}
use Rattle.devices.specs.declared.gptimer.Gptimer.{Gptimer}
use Rattle.devices.specs.declared.gptimer.Elapsed.{Elapsed}
use Rattle.devices.specs.declared.gptimer.Span.{Span}
use Rattle.devices.specs.declared.gptimer.Span.TheVariants.{Cycles, ToPulse}
use Rattle.devices.specs.declared.gptimer.Short.{Short}

abbrev pub pass : Span → Gptimer → Elapsed
pass (Cycles cycles) u = advance cycles u
pass (ToPulse limit) u = skip limit u

-- the most cycles that a span can have
abbrev pub most : Span → ℕ
most (Cycles cycles) = cycles
most (ToPulse limit) = limit

-- "if the prescaler value is 0 there is a tick": whether one comes in so many cycles
unfoldable pub any_tick : ℕ → Gptimer → Bool
any_tick zero u = false
any_tick (suc n) u = u.scaler == 0 || any_tick n (cycle u)

-- cycles in which the prescaler's value changes and nothing else
abbrev pub counted_down : (cycles scaler : ℕ) → Gptimer → Elapsed
counted_down cycles scaler u =
    record { cycles = cycles; pulses = 0 ∷ 0 ∷ 0 ∷ 0 ∷ []; unit = with_scaler scaler u }

-- Paper 02, No. 2: "Nine in ten of our advances end before the prescaler reaches its tick." Of every span the unit tells whether
-- it does, and then what it comes to.
abbrev pub Tells : Span → Gptimer → Option Short → Type 0
Tells span u (Some s) = (any_tick (most span) u ≡ false) × (pass span u ≡ counted_down s.cycles s.scaler u)
Tells span u None = any_tick (most span) u ≡ true
