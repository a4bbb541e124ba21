-- Parts of the buffers. Assumes nothing.
use Rattle.std.proofs.Common.{ℕ, ◌+◌, ◌-◌, ◌*◌, ◌≤◌, ◌≡◌, ◌∙◌, List, length, arith}
use mir.Syntax.{w64}
use mir.Val.{Fits}
use borrow.Rule.Slice.PartMut.{mid_of, put_mid, mid_len, same_len_mid}
use Rattle.bus.specs.declared.machine.Machine.{Machine}
use Rattle.script.specs.Log.{entry_length}
use Rattle.script.specs.Run.{piece}
use Rattle.script.specs.Pieces.{log_length}
use Rattle.script.specs.View.{Conforms}
use Rattle.script.proofs.Laws.View.{piece_room}
use Rattle.script.specs.declared.run.Ran.{Ran}
use Rattle.stream.specs.Laws.{front_length}

-- The length of the log buffer: that of GATHERED pieces' logs.
abbrev pub buffer_length : ℕ
buffer_length = 16 * log_length

-- The log with the part that a piece was lent put back.
pub back_length :
    (end n : ℕ) (log bytes : List ℕ) → length bytes ≡ length (mid_of end n log) → length log ≡ buffer_length →
    length (put_mid end n log bytes) ≡ buffer_length
back_length end n log bytes e f = same_len_mid end n log bytes e ∙ f

-- What a piece logs ends in the part of the log that it is lent.
module _
    (m : Machine) (input : List ℕ) (end : ℕ) (log bytes : List ℕ) (r : Ran)
    (c : Conforms m (piece input (mid_of end (buffer_length - end) log)) r bytes) where
  pub end_within : end + log_length ≤ buffer_length → length log ≡ buffer_length → end + entry_length * r.done ≤ buffer_length
  end_within h e =
      omega (arith, piece_room input (mid_of end (buffer_length - end) log) c, mid_len end buffer_length log (omega (arith, e)))

  pub logged_fits : end + log_length ≤ buffer_length → length log ≡ buffer_length → Fits w64 (entry_length * r.done)
  logged_fits h e = record { fits = omega (arith, end_within h e) }

  pub end_fits : end + log_length ≤ buffer_length → length log ≡ buffer_length → Fits w64 (end + entry_length * r.done)
  end_fits h e = record { fits = omega (arith, end_within h e) }

  pub end_in :
      end + log_length ≤ buffer_length → length log ≡ buffer_length → length bytes ≡ length (mid_of end (buffer_length - end) log) →
      end + entry_length * r.done ≤ length (put_mid end (buffer_length - end) log bytes)
  end_in h e f = omega (arith, end_within h e, back_length end (buffer_length - end) log bytes f e)

pub ruleset buffers = (front_length, end_in)
