-- The refusal numbers that a device's own call can answer with.
use Rattle.std.specs.Prelude.{ℕ}
use Rattle.devices.specs.declared.refusal.Refusal.{Refusal}
use Rattle.devices.specs.declared.refusal.Refusal.TheVariants.{ReceiverOff, QueueFull, IllFormed, NoRegister}

-- "0 | not refused"
abbrev pub not_refused : ℕ
not_refused = 0

-- "7 | that port's RE is 0"
abbrev pub receiver_off : ℕ
receiver_off = 7

-- "8 | that port already holds 8 bytes"
abbrev pub queue_full : ℕ
queue_full = 8

-- "9 | the machine state is ill formed"
abbrev pub ill_formed : ℕ
ill_formed = 9

-- 02, No. 5: "Word accesses to an offset without a register get number 13"
abbrev pub no_register : ℕ
no_register = 13

-- The number of each of the code's reasons for a refusal.
abbrev pub number_of : Refusal → ℕ
number_of ReceiverOff = receiver_off
number_of QueueFull = queue_full
number_of IllFormed = ill_formed
number_of NoRegister = no_register
