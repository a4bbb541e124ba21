-- The skip from reset to timer 4's pulse, and one cycle less: bench examples of papers 01 and 02 whose cycles are too many to
-- be done one by one. Assumes nothing.
use Rattle.std.specs.Prelude.{◌≡◌, ℕ, ◌-◌, ◌^◌, Bool, true, false, [], ◌∷◌, refl}
use Rattle.std.proofs.Common.{◌∙◌, arith}
use Rattle.devices.specs.Gptimer.{zero_timer, reset_state, skip}
use Rattle.devices.specs.Gptimer.Direct.{elapsed, stands, ends_at, once_at, counted, due, due_tick}
use Rattle.devices.proofs.Laws.Gptimer.Direct.Time.{advance_elapsed}
use Rattle.devices.proofs.Laws.Gptimer.Direct.Due.{skip_advance}
use Rattle.devices.specs.declared.gptimer.Elapsed.{Elapsed}

-- the largest limit, and one cycle less than the pulse takes
pub largest : ℕ
largest = 2 ^ 64 - 1

pub one_less : ℕ
one_less = 4294967295

-- A span from reset after which timer 4 stands so.
abbrev pub from_reset : (cycles scaler counter pulses : ℕ) (en ip : Bool) → Elapsed
from_reset cycles scaler counter pulses en ip =
    record {
      cycles = cycles;
      pulses = 0 ∷ 0 ∷ 0 ∷ pulses ∷ [];
      unit = record {
        scaler = scaler;
        sreload = 0xFFFF;
        df = false;
        timers =
            zero_timer ∷ zero_timer ∷ zero_timer ∷
            record { counter = counter; reload = 0xFFFF; en = en; rs = false; ie = true; ip = ip; ch = false } ∷ [];
      };
    }

pub skip_from_reset : skip largest reset_state ≡ from_reset 4294967296 0xFFFF 0xFFFFFFFF 1 false true
unfolding largest ends_at once_at due due_tick elapsed stands counted
skip_from_reset = skip_advance largest reset_state refl (omega arith) ∙ advance_elapsed 4294967296 reset_state

pub skip_one_less : skip one_less reset_state ≡ from_reset 4294967295 0 0 0 true false
unfolding one_less ends_at once_at due due_tick elapsed stands counted
skip_one_less = skip_advance one_less reset_state refl (omega arith) ∙ advance_elapsed 4294967295 reset_state
