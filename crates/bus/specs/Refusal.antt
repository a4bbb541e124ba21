-- The refusal numbers that a call on a machine adds to those of a device's own call: paper 01, "Refusal numbers".
use Rattle.std.specs.Prelude.{ℕ}
use Rattle.bus.specs.declared.refusal.Refusal.{Refusal}
use Rattle.bus.specs.declared.refusal.Refusal.TheVariants.{BadSize, NoWindow, PastWindow, Misaligned, NotAWord, NoPort, BadRecord}

-- "1 | size is not 1, 2 or 4"
abbrev pub bad_size : ℕ
bad_size = 1

-- "2 | the address lies in no window"
abbrev pub no_window : ℕ
no_window = 2

-- "3 | the access runs past its window's end"
abbrev pub past_window : ℕ
past_window = 3

-- "4 | the address is no multiple of the size"
abbrev pub misaligned : ℕ
misaligned = 4

-- "5 | the size is 1 or 2"
abbrev pub not_a_word : ℕ
not_a_word = 5

-- "6 | an offered byte names a port above 5"
abbrev pub no_port : ℕ
no_port = 6

-- "10 | a script record is malformed or cut short"
abbrev pub bad_record : ℕ
bad_record = 10

-- The number of each of the code's reasons for a refusal.
abbrev pub number_of : Refusal → ℕ
number_of BadSize = bad_size
number_of NoWindow = no_window
number_of PastWindow = past_window
number_of Misaligned = misaligned
number_of NotAWord = not_a_word
number_of NoPort = no_port
number_of BadRecord = bad_record
