-- The serial port (APBUART): paper 01, section "Serial port", with what "Refusal numbers" says of a device's own call, and
-- paper 02, No. 5, which replaces what 01 says of an offset without a register. One definition a rule, under the sentence that
-- it states, in that section's order; what several rules use stands before them: answers, CONTROL's bits, what is ill formed,
-- and the line's level.
pub mod View
pub mod Call
use Rattle.std.specs.Prelude.{ℕ, ◌+◌, ◌*◌, ◌%◌, ◌^◌, Bool, true, false, cond, ◌&&◌, ◌||◌, List, [], ◌∷◌, ◌++◌, length, ◌==◌, nat_le, nat_lt}
use Rattle.devices.specs.Word.{bit}
use Rattle.devices.specs.Register.{one_of}
use Rattle.devices.specs.Refusal.{not_refused, receiver_off, queue_full, ill_formed, no_register}

-- "Two machines are equal when their registers, queued bytes oldest first, and line levels are equal."
pub record Port : Type 0 where
  pub control : ℕ
  pub scaler : ℕ
  pub queue : List ℕ
  pub level : Bool

-- What a call answers: the refusal number, the value read, whether a byte was emitted, that byte, and the port after it.
pub record Answer : Type 0 where
  pub refusal : ℕ
  pub value : ℕ
  pub emitted : Bool
  pub byte : ℕ
  pub port : Port

-- "A refusal returns the same machine, value 0, no emitted byte"
abbrev pub refused : ℕ → Port → Answer
refused number p = record { refusal = number; value = 0; emitted = false; byte = 0; port = p }

-- "Anything else that a record's kind does not produce is 0, here and in the call's own answer."
abbrev pub accepted : ℕ → Port → Answer
accepted value p = record { refusal = not_refused; value = value; emitted = false; byte = 0; port = p }

abbrev pub emitting : ℕ → Port → Answer
emitting byte p = record { refusal = not_refused; value = 0; emitted = true; byte = byte; port = p }

-- "that port already holds 8 bytes", "fewer than 8 wait"
abbrev pub depth : ℕ
depth = 8

-- "RE is bit 0, TE bit 1, RI bit 2, TI bit 3; the others have no effect." Bit 31 is FA in 000.
abbrev pub RE : ℕ
RE = 0

abbrev pub TE : ℕ
TE = 1

abbrev pub RI : ℕ
RI = 2

abbrev pub TI : ℕ
TI = 3

abbrev pub FA : ℕ
FA = 31

-- "A state is ill formed exactly when .. a port's SCALER exceeds 0xFF, a port's CONTROL lacks bit 31, or a receive queue
-- claims more than 8 bytes. A case that the chosen types exclude needs no test": the code's SCALER is a `u8`.
unfoldable pub well_formed : Port → Bool
well_formed p = bit FA p.control && nat_le (length p.queue) depth

-- A port with one field changed.
abbrev pub with_control : ℕ → Port → Port
with_control word p = record { control = word; scaler = p.scaler; queue = p.queue; level = p.level }

abbrev pub with_scaler : ℕ → Port → Port
with_scaler byte p = record { control = p.control; scaler = byte; queue = p.queue; level = p.level }

abbrev pub with_queue : List ℕ → Port → Port
with_queue bytes p = record { control = p.control; scaler = p.scaler; queue = bytes; level = p.level }

abbrev pub with_level : Bool → Port → Port
with_level level p = record { control = p.control; scaler = p.scaler; queue = p.queue; level = level }

-- "the queue isn't empty"
abbrev pub not_empty : Port → Bool
not_empty p = nat_lt 0 (length p.queue)

-- "Line level: worked out anew on a CONTROL write and on an accepted byte only. It is 1 if (RI and queue not empty) or
-- TI."
abbrev pub line_level : Port → Bool
line_level p = (bit RI p.control && not_empty p) || bit TI p.control

abbrev pub update_level : Port → Port
update_level p = with_level (line_level p) p

abbrev pub DATA : ℕ
DATA = 0x00

-- the byte that has waited longest, and those behind it
abbrev pub oldest : List ℕ → ℕ
oldest [] = 0
oldest (byte ∷ bytes) = byte

abbrev pub younger : List ℕ → List ℕ
younger [] = []
younger (byte ∷ bytes) = bytes

-- "0x00 DATA. Read: 0 if RE is 0 or the queue is empty; else the oldest byte, which leaves."
abbrev pub read_data : Port → Answer
read_data p =
    cond (bit RE p.control && not_empty p)
    (accepted (oldest p.queue) (with_queue (younger p.queue) p))
    (accepted 0 p)

-- "Write: the low 8 bits are emitted at once if TE is 1, else dropped. A drop is no refusal."
abbrev pub write_data : ℕ → Port → Answer
write_data value p = cond (bit TE p.control) (emitting (value % 2 ^ 8) p) (accepted 0 p)

abbrev pub STATUS : ℕ
STATUS = 0x04

-- "0x04 STATUS. Writes are ignored. Read: 0x80000086, plus 1 if the queue isn't empty, plus the queue's length times
-- 2^26."
abbrev pub read_status : Port → Answer
read_status p = accepted (0x80000086 + cond (not_empty p) 1 0 + length p.queue * 2 ^ 26) p

abbrev pub CONTROL : ℕ
CONTROL = 0x08

-- "0x08 CONTROL. All 32 bits are stored, bit 31 forced to 1." "Clearing RE keeps the queue."
abbrev pub write_control : ℕ → Port → Answer
write_control value p = accepted 0 (update_level (with_control (value % 2 ^ 31 + 2 ^ 31) p))

abbrev pub SCALER : ℕ
SCALER = 0x0C

-- "0x0C SCALER. The low 8 bits are stored."
abbrev pub write_scaler : ℕ → Port → Answer
write_scaler value p = accepted 0 (with_scaler (value % 2 ^ 8) p)

-- The offsets with a register.
abbrev pub registers : List ℕ
registers = DATA ∷ STATUS ∷ CONTROL ∷ SCALER ∷ []

abbrev pub has_register : ℕ → Bool
has_register offset = one_of registers offset

-- CONTROL and SCALER read what is stored ("R/W" in 000). 02, No. 5: "Word accesses to an offset without a register get number
-- 13"; and a device's own call, 01 says, "answers an offset that is no register's, odd ones included, as a word offset without
-- a register is answered."
abbrev pub read_register : ℕ → Port → Answer
read_register offset p =
    cond (offset == DATA) (read_data p)
    (cond (offset == STATUS) (read_status p)
    (cond (offset == CONTROL) (accepted p.control p)
    (cond (offset == SCALER) (accepted p.scaler p)
    (refused no_register p))))

abbrev pub write_register : ℕ → ℕ → Port → Answer
write_register offset value p =
    cond (offset == DATA) (write_data value p)
    (cond (offset == STATUS) (accepted 0 p)
    (cond (offset == CONTROL) (write_control value p)
    (cond (offset == SCALER) (write_scaler value p)
    (refused no_register p))))

-- "Offered byte: joins the queue's end if RE is 1 and fewer than 8 wait." Else "7 | that port's RE is 0", "8 | that port
-- already holds 8 bytes", "in that order".
abbrev pub receive : ℕ → Port → Answer
receive byte p =
    cond (bit RE p.control)
    (cond (nat_lt (length p.queue) depth)
    (accepted 0 (update_level (with_queue (p.queue ++ (byte ∷ [])) p)))
    (refused queue_full p))
    (refused receiver_off p)

-- "Each device has one reset state. Here: CONTROL 0x80000000, SCALER 0, empty queue, level 0"
abbrev pub reset_state : Port
reset_state = record { control = 0x80000000; scaler = 0; queue = []; level = false }

-- "9 first"; "Every call on a machine is subject to 9, reset too."; "A device's own call judges 9 by that device alone"
abbrev pub guarded : Port → Answer → Answer
guarded p answer = cond (well_formed p) answer (refused ill_formed p)

-- The four calls on a port.
unfoldable pub read : ℕ → Port → Answer
read offset p = guarded p (read_register offset p)

unfoldable pub write : ℕ → ℕ → Port → Answer
write offset value p = guarded p (write_register offset value p)

unfoldable pub offer : ℕ → Port → Answer
offer byte p = guarded p (receive byte p)

unfoldable pub reset : Port → Answer
reset p = guarded p (accepted 0 reset_state)
