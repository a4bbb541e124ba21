-- The interrupt controller (IRQMP): paper 02, No. 4, with what No. 5 says of an offset without a register and 01, "Refusal
-- numbers", of a device's own call. One definition a rule, under the sentence that it states, in the request's order; what several
-- rules use stands before them. Every field of the code's struct is a register, so the definitions are on that struct. A register
-- has one bit a line: bit n is line n.
pub mod Words
use Rattle.std.specs.Prelude.{ℕ, zero, suc, ◌^◌, Bool, cond, ◌&&◌, ◌||◌, List, [], ◌∷◌, ◌==◌, bit_and, bit_or, nat_le, nat_lt}
use Rattle.devices.specs.Word.{bit, without}
use Rattle.devices.specs.Register.{one_of}
use Rattle.devices.specs.Refusal.{ill_formed, no_register}
use Rattle.devices.specs.Answer.{Answer, refused, accepted}
use Rattle.devices.specs.declared.irqmp.Irqmp.{Irqmp}

-- A controller with one register changed.
abbrev pub with_level : ℕ → Irqmp → Irqmp
with_level word c = record { level = word; pending = c.pending; force = c.force; mask = c.mask; extended = c.extended }

abbrev pub with_pending : ℕ → Irqmp → Irqmp
with_pending word c = record { level = c.level; pending = word; force = c.force; mask = c.mask; extended = c.extended }

abbrev pub with_force : ℕ → Irqmp → Irqmp
with_force word c = record { level = c.level; pending = c.pending; force = word; mask = c.mask; extended = c.extended }

abbrev pub with_mask : ℕ → Irqmp → Irqmp
with_mask word c = record { level = c.level; pending = c.pending; force = c.force; mask = word; extended = c.extended }

abbrev pub with_extended : ℕ → Irqmp → Irqmp
with_extended n c = record { level = c.level; pending = c.pending; force = c.force; mask = c.mask; extended = n }

-- "level 0x00, pending 0x04, force 0x08, clear 0x0C, mask 0x40, extended acknowledge 0xC0, all 0 at reset."
abbrev pub LEVEL : ℕ
LEVEL = 0x00

abbrev pub PENDING : ℕ
PENDING = 0x04

abbrev pub FORCE : ℕ
FORCE = 0x08

abbrev pub CLEAR : ℕ
CLEAR = 0x0C

abbrev pub MASK : ℕ
MASK = 0x40

abbrev pub EXTENDED : ℕ
EXTENDED = 0xC0

abbrev pub reset_state : Irqmp
reset_state = record { level = 0; pending = 0; force = 0; mask = 0; extended = 0 }

-- "Level and force keep bits 1 to 15, pending and mask bits 1 to 31;"
abbrev pub lines_1_to_15 : ℕ
lines_1_to_15 = 0xFFFE

abbrev pub lines_1_to_31 : ℕ
lines_1_to_31 = 0xFFFFFFFE

-- "other bits set, or an extended acknowledge not 0 or 16 to 31, make a state ill formed."
abbrev pub within : ℕ → ℕ → Bool
within lines word = bit_and word lines == word

abbrev pub may_be_noted : ℕ → Bool
may_be_noted n = n == 0 || (nat_le 16 n && nat_le n 31)

unfoldable pub well_formed : Irqmp → Bool
well_formed c =
    within lines_1_to_15 c.level && (within lines_1_to_31 c.pending && (within lines_1_to_15 c.force &&
    (within lines_1_to_31 c.mask && may_be_noted c.extended)))

-- The offsets with a register.
abbrev pub registers : List ℕ
registers = LEVEL ∷ PENDING ∷ FORCE ∷ CLEAR ∷ MASK ∷ EXTENDED ∷ []

abbrev pub has_register : ℕ → Bool
has_register offset = one_of registers offset

-- Level, pending, force and mask store the bits of a word that they keep, and read what is stored. "Ones written to clear clear
-- pending bits; it reads 0. Extended acknowledge ignores writes." No. 5: "Word accesses to an offset without a register get number
-- 13"; and a device's own call, 01 says, "answers an offset that is no register's, odd ones included, as a word offset without a
-- register is answered."
abbrev pub read_register : ℕ → Irqmp → Answer Irqmp
read_register offset c =
    cond (offset == LEVEL) (accepted c.level c)
    (cond (offset == PENDING) (accepted c.pending c)
    (cond (offset == FORCE) (accepted c.force c)
    (cond (offset == CLEAR) (accepted 0 c)
    (cond (offset == MASK) (accepted c.mask c)
    (cond (offset == EXTENDED) (accepted c.extended c)
    (refused no_register c))))))

abbrev pub write_register : ℕ → ℕ → Irqmp → Answer Irqmp
write_register offset value c =
    cond (offset == LEVEL) (accepted 0 (with_level (bit_and value lines_1_to_15) c))
    (cond (offset == PENDING) (accepted 0 (with_pending (bit_and value lines_1_to_31) c))
    (cond (offset == FORCE) (accepted 0 (with_force (bit_and value lines_1_to_15) c))
    (cond (offset == CLEAR) (accepted 0 (with_pending (without value c.pending) c))
    (cond (offset == MASK) (accepted 0 (with_mask (bit_and value lines_1_to_31) c))
    (cond (offset == EXTENDED) (accepted 0 c)
    (refused no_register c))))))

-- "A pulse of timer n sets pending line 7+n; a line level rising from 0 to 1 sets the port's line": the lines of a word become
-- pending, of those that pending keeps. Whose line is which, the board says.
abbrev pub with_lines : ℕ → Irqmp → Irqmp
with_lines lines c = with_pending (bit_or c.pending (bit_and lines lines_1_to_31)) c

-- "A line waits when pending or forced, and its mask bit is 1."
abbrev pub waits : Irqmp → ℕ → Bool
waits c n = (bit n c.pending || bit n c.force) && bit n c.mask

-- the highest of lines 1 to n that pass a test, 0 if none does
unfoldable pub highest : ℕ → (ℕ → Bool) → ℕ
highest zero test = 0
highest (suc n) test = cond (test (suc n)) (suc n) (highest n test)

-- "the highest waiting extended line if any", 0 if there is none: "Lines 16 to 31" are the extended ones
abbrev pub extended_line : Irqmp → ℕ
extended_line c = highest 31 (λ n. nat_le 16 n && waits c n)

-- "Lines 16 to 31 reach the processor as line 12, whatever 12's mask bit (house)."
abbrev pub reaches : Irqmp → ℕ → Bool
reaches c n = waits c n || (n == 12 && nat_lt 0 (extended_line c))

-- the first of two lines, or the second where the first is 0
abbrev pub or_else : ℕ → ℕ → ℕ
or_else first second = cond (first == 0) second first

-- "Level 1 goes before level 0, then the higher number": of the processor's lines 1 to 15, 0 if none reaches it
unfoldable pub line_taken : Irqmp → ℕ
line_taken c = or_else (highest 15 (λ n. reaches c n && bit n c.level)) (highest 15 (reaches c))

-- "Taking a line clears its force bit if set, else its pending bit;"
abbrev pub take : ℕ → Irqmp → Irqmp
take n c =
    cond (bit n c.force) (with_force (without (2 ^ n) c.force) c) (with_pending (without (2 ^ n) c.pending) c)

-- "taking 12 takes the highest waiting extended line if any and notes its number, else line 12 and notes 0."
abbrev pub take12 : Irqmp → Irqmp
take12 c = with_extended (extended_line c) (take (or_else (extended_line c) 12) c)

-- Taking no line, 0, changes nothing; another line than 12 leaves the number noted.
abbrev pub taken : ℕ → Irqmp → Irqmp
taken n c = cond (n == 0) c (cond (n == 12) (take12 c) (take n c))

-- "9 first"; "Every call on a machine is subject to 9, reset too."; "A device's own call judges 9 by that device alone"
abbrev pub guarded : Irqmp → Answer Irqmp → Answer Irqmp
guarded c answer = cond (well_formed c) answer (refused ill_formed c)

-- The five calls on a controller. "A new script kind 7 acknowledges: .. the value read is the line taken (12 for an extended one)
-- or 0."
unfoldable pub read : ℕ → Irqmp → Answer Irqmp
read offset c = guarded c (read_register offset c)

unfoldable pub write : ℕ → ℕ → Irqmp → Answer Irqmp
write offset value c = guarded c (write_register offset value c)

unfoldable pub set_pending : ℕ → Irqmp → Answer Irqmp
set_pending lines c = guarded c (accepted 0 (with_lines lines c))

unfoldable pub acknowledge : Irqmp → Answer Irqmp
acknowledge c = guarded c (accepted (line_taken c) (taken (line_taken c) c))

unfoldable pub reset : Irqmp → Answer Irqmp
reset c = guarded c (accepted 0 reset_state)
