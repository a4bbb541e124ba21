-- What an access of a device answers, and a call on the interrupt controller: the refusal number, the value read, or the line
-- taken, and the device after the call. (A port's has the emitted byte besides: Apbuart.antt.)
pub mod View
use Rattle.std.specs.Prelude.{ℕ}
use Rattle.devices.specs.Refusal.{not_refused}

pub record Answer (D : Type 0) : Type 0 where
  pub refusal : ℕ
  pub value : ℕ
  pub device : D

-- "A refusal returns the same machine, value 0". "Anything else that a record's kind does not produce is 0, here and in the call's
-- own answer."
abbrev pub refused : {D : Type 0} → ℕ → D → Answer D
refused number d = record { refusal = number; value = 0; device = d }

abbrev pub accepted : {D : Type 0} → ℕ → D → Answer D
accepted value d = record { refusal = not_refused; value = value; device = d }
