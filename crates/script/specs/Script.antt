-- Script records: paper 01, "Script and log", with the kind that paper 02, No. 4, adds.
use Rattle.std.specs.Prelude.{ℕ, zero, suc, Bool, true, cond, ◌&&◌, List, [], ◌∷◌, ◌==◌, nat_lt, length, take, drop}
use Rattle.std.specs.Prelude.{◌≡◌, ◌≢◌, Result, MatchResult}
use Rattle.bus.specs.declared.machine.Call.{Call}
use Rattle.bus.specs.declared.machine.Call.TheVariants.{Read, Write, Offer, Advance, Skip, Reset, Acknowledge, Malformed}
use Rattle.script.specs.Number.{byte, number}
use Rattle.script.specs.declared.record.Fields.{Fields}
use Rattle.script.specs.declared.record.Kind.{Kind}
use Rattle.script.specs.declared.record.Kind.TheVariants as kind
use Rattle.script.specs.declared.record.UnknownKind.{UnknownKind}

-- "A script record is 16 bytes"
abbrev pub record_length : ℕ
record_length = 16

-- "Kind (byte 0)"
abbrev pub READ : ℕ
READ = 1

abbrev pub WRITE : ℕ
WRITE = 2

abbrev pub OFFER : ℕ
OFFER = 3

abbrev pub ADVANCE : ℕ
ADVANCE = 4

abbrev pub SKIP : ℕ
SKIP = 5

abbrev pub RESET : ℕ
RESET = 6

-- 02: "A new script kind 7 acknowledges"
abbrev pub ACKNOWLEDGE : ℕ
ACKNOWLEDGE = 7

-- The number of each of the code's kinds, and what a byte names: the kind of that number, or none.
abbrev pub kind_number : Kind → ℕ
kind_number kind.Read = READ
kind_number kind.Write = WRITE
kind_number kind.Offer = OFFER
kind_number kind.Advance = ADVANCE
kind_number kind.Skip = SKIP
kind_number kind.Reset = RESET
kind_number kind.Acknowledge = ACKNOWLEDGE

abbrev pub Names : ℕ → Result Kind UnknownKind → Type 0
Names byte r = MatchResult r (λ named. byte ≡ kind_number named) (λ unknown. (named : Kind) → byte ≢ kind_number named)

-- The numbers in a record, by their places: "Kind (byte 0) | Byte 1 | Byte 2 | Bytes 4-7 | Bytes 8-15".
abbrev pub fields : List ℕ → Fields
fields r =
    record {
      kind = byte 0 r;
      byte_1 = byte 1 r;
      byte_2 = byte 2 r;
      byte_3 = byte 3 r;
      bytes_4_7 = number 4 4 r;
      bytes_8_11 = number 8 4 r;
      bytes_12_15 = number 12 4 r;
      bytes_8_15 = number 8 8 r;
    }

-- A line of the table: a kind, the call that its records stand for, and the numbers in them that have to be 0: "Byte 3, each
-- blank and a write's bytes 8-11 are 0."
pub record Line : Type 0 where
  pub kind : ℕ
  pub call : Call
  pub blanks : List ℕ

-- "1 read | size | | address | |"
abbrev pub read_line : Fields → Line
read_line r =
    record {
      kind = READ;
      call = Read r.bytes_4_7 r.byte_1;
      blanks = r.byte_2 ∷ r.byte_3 ∷ r.bytes_8_15 ∷ [];
    }

-- "2 write | size | | address | value in 12-15"
abbrev pub write_line : Fields → Line
write_line r =
    record {
      kind = WRITE;
      call = Write r.bytes_4_7 r.byte_1 r.bytes_12_15;
      blanks = r.byte_2 ∷ r.byte_3 ∷ r.bytes_8_11 ∷ [];
    }

-- "3 offer | port | the byte | | |"
abbrev pub offer_line : Fields → Line
offer_line r =
    record {
      kind = OFFER;
      call = Offer r.byte_1 r.byte_2;
      blanks = r.byte_3 ∷ r.bytes_4_7 ∷ r.bytes_8_15 ∷ [];
    }

-- "4 advance | | | | cycles"
abbrev pub advance_line : Fields → Line
advance_line r =
    record {
      kind = ADVANCE;
      call = Advance r.bytes_8_15;
      blanks = r.byte_1 ∷ r.byte_2 ∷ r.byte_3 ∷ r.bytes_4_7 ∷ [];
    }

-- "5 skip | | | | limit"
abbrev pub skip_line : Fields → Line
skip_line r =
    record {
      kind = SKIP;
      call = Skip r.bytes_8_15;
      blanks = r.byte_1 ∷ r.byte_2 ∷ r.byte_3 ∷ r.bytes_4_7 ∷ [];
    }

-- "6 reset | | | | |"
abbrev pub reset_line : Fields → Line
reset_line r =
    record {
      kind = RESET;
      call = Reset;
      blanks = r.byte_1 ∷ r.byte_2 ∷ r.byte_3 ∷ r.bytes_4_7 ∷ r.bytes_8_15 ∷ [];
    }

-- 02: "bytes 1 to 15 are 0"
abbrev pub acknowledge_line : Fields → Line
acknowledge_line r =
    record {
      kind = ACKNOWLEDGE;
      call = Acknowledge;
      blanks = r.byte_1 ∷ r.byte_2 ∷ r.byte_3 ∷ r.bytes_4_7 ∷ r.bytes_8_15 ∷ [];
    }

abbrev pub table : Fields → List Line
table r =
    read_line r ∷ write_line r ∷ offer_line r ∷ advance_line r ∷ skip_line r ∷ reset_line r ∷ acknowledge_line r ∷ []

abbrev pub all_zero : List ℕ → Bool
all_zero [] = true
all_zero (n ∷ ns) = n == 0 && all_zero ns

-- "Another kind, or one of these not 0, is malformed."
abbrev pub call_on : Line → Call
call_on l = cond (all_zero l.blanks) l.call Malformed

abbrev pub call_among : ℕ → List Line → Call
call_among kind [] = Malformed
call_among kind (l ∷ ls) = cond (kind == l.kind) (call_on l) (call_among kind ls)

-- The call that a record stands for; "a script record is malformed or cut short"
unfoldable pub call_in : List ℕ → Call
call_in r = cond (nat_lt (length r) record_length) Malformed (call_among (byte 0 r) (table (fields r)))

-- The calls of the first n records of a script; one that is not there, whole or in part, counts as cut short.
abbrev pub calls : ℕ → List ℕ → List Call
calls zero script = []
calls (suc n) script = call_in (take record_length script) ∷ calls n (drop record_length script)
