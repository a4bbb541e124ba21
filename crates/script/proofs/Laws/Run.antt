-- What follows from the definitions of a run and of a piece. Assumes nothing.
use Rattle.std.specs.Prelude.{ℕ, zero, suc, ◌+◌, ◌*◌, ◌/◌, ◌%◌, ◌≤◌, ◌<◌, min, ◌≡◌, Bool, true, false, cond, eqb, length, take, drop}
use Rattle.std.proofs.Math.Path.{refl}
use Rattle.std.proofs.Common.{sym, ap, ◌∙◌, arith, div-add-mod', length-append, length-drop, take-append-drop, length-take-le, eq-eqb, ne_eqb}
use mathlib.Core.List.{List, [], ◌∷◌, ◌++◌, append-nil, flat_map}
use Rattle.std.proofs.Math.Decide.{dec_lt, ℕ_discrete}
use Rattle.std.proofs.Math.Nat.{mul-add-div, mul-add-mod_self_left}
use Rattle.devices.proofs.Laws.Cases.{same, chosen}
use Rattle.bus.specs.Machine as bus
use Rattle.bus.specs.Machine.{well_formed}
use Rattle.bus.specs.SlowRun.{answers}
use Rattle.bus.proofs.Laws.SlowRun.{length_answers}
use Rattle.script.specs.Script as scripts
use Rattle.script.specs.Script.{calls}
use Rattle.script.proofs.Laws.Script.{length_calls, calls_append}
use Rattle.script.specs.Log.{entry_length, entries}
use Rattle.script.proofs.Laws.Log.{length_entries}
use Rattle.script.specs.Run.{Ran, run_first, whole, fitting, with_tail}
use Rattle.script.specs.Pieces.{Cut, none, uncut, cut, piece_length, log_length, InPieces, last, full}

-- What n records write.
pub written_length :
    (n : ℕ) (script : List ℕ) (m : bus.Machine) → length (entries (answers (calls n script) m)) ≡ entry_length * n
written_length n script m =
    rw (length_entries (answers (calls n script) m), length_answers (calls n script) m, length_calls n script) refl

-- A count of the records in some bytes that goes by pieces: those of a script are those of its pieces.
pub record Counts (given : List ℕ → ℕ) : Type 0 where
  pub nothing : given [] ≡ 0
  pub adds :
      (script rest : List ℕ) → length script % scripts.record_length ≡ 0 →
      given (script ++ rest) ≡ whole script + given rest

-- Then so are the calls. None is made on a machine that is not well formed.
module _ (given : List ℕ → ℕ) (counts : Counts given) where
  alone : (script : List ℕ) → length script % scripts.record_length ≡ 0 → given script ≡ whole script
  alone script e =
      ap given (sym (append-nil script)) ∙ (counts.adds script [] e ∙ rw counts.nothing (omega arith))

  split_calls :
      (well : Bool) (script rest : List ℕ) → length script % scripts.record_length ≡ 0 →
      calls (cond well (given (script ++ rest)) 0) (script ++ rest) ≡
      calls (cond well (given script) 0) script ++ calls (cond well (given rest) 0) rest
  split_calls true script rest e =
      let long : length script ≡ scripts.record_length * whole script =
      omega (arith, div-add-mod' (length script) scripts.record_length) in
      rw (alone script e, counts.adds script rest e) (calls_append (whole script) (given rest) script rest long)
  split_calls false script rest e = refl

  pub pieces_calls :
      (well : Bool) {script : List ℕ} {pieces : List (List ℕ)} → Cut script pieces →
      flat_map (λ (piece : List ℕ). calls (cond well (given piece) 0) piece) pieces ≡
      calls (cond well (given script) 0) script
  unfolding flat_map
  pieces_calls well none = rw (counts.nothing, same {A = ℕ} well 0) refl
  pieces_calls well (uncut {piece}) = append-nil (calls (cond well (given piece) 0) piece)
  pieces_calls well (cut {piece} {rest} e c) = rw (pieces_calls well c) (sym (split_calls well piece rest e))

-- Whole records are counted so, and pieces with their tail.
adds_length :
    (script rest : List ℕ) → length script % scripts.record_length ≡ 0 →
    length (script ++ rest) ≡ scripts.record_length * whole script + length rest
adds_length script rest e = rw length-append (omega (arith, div-add-mod' (length script) scripts.record_length))

pub whole_counts : Counts whole
whole_counts =
    record {
      nothing = refl;
      adds = λ script rest e. rw (adds_length script rest e) (mul-add-div (omega arith) (whole script) (length rest));
    }

pub tail_counts : Counts with_tail
tail_counts =
    record {
      nothing = refl;
      adds = λ script rest e.
          rw (
            adds_length script rest e,
            mul-add-div {m = scripts.record_length} (omega arith) (whole script) (length rest),
            mul-add-mod_self_left scripts.record_length (whole script) (length rest),
          ) (omega arith);
    }

-- Each record of a piece, its tail too, begins in it; so the log of a piece of the program's input fits.
pub tail_starts :
    (n : ℕ) →
    scripts.record_length * (n / scripts.record_length + cond (eqb (n % scripts.record_length) 0) 0 1) <
    n + scripts.record_length
tail_starts n =
    elim (ℕ_discrete (n % scripts.record_length) 0) [
      | yes z ↦ rw (eq-eqb (n % scripts.record_length) 0 z) (omega (arith, div-add-mod' n scripts.record_length))
      | no z ↦ rw (ne_eqb (n % scripts.record_length) 0 z) (omega (arith, div-add-mod' n scripts.record_length))
    ]

pub piece_fits : (piece log : List ℕ) → length piece ≤ piece_length → log_length ≤ length log → with_tail piece ≤ fitting log
piece_fits piece log h e = omega (arith, tail_starts (length piece))

-- The log has room for the records that are done.
pub done_fits :
    (n : ℕ) (script log : List ℕ) (m : bus.Machine) (count : ℕ) →
    count ≡ (run_first (min n (fitting log)) script log m).done →
    entry_length * count ≤ length log
done_fits n script log m count =
    chosen (λ b (d : Ran). count ≡ d.done → entry_length * count ≤ length log) (well_formed m) _ _
    (λ e. omega (arith, div-add-mod' (length log) entry_length)) (λ e. omega arith)

-- Every input can be cut into pieces as the program reads them.
pub in_pieces : (n : ℕ) (input : List ℕ) → length input < n → (inputs : List (List ℕ)) × InPieces input inputs
in_pieces zero input h = absurd (omega arith)
in_pieces (suc n) input h =
    elim (dec_lt (length input) piece_length) [
      | yes l ↦ (input ∷ [], last l)
      | no l ↦
          let rest = in_pieces n (drop piece_length input) (rw length-drop (omega arith)) in (
            take piece_length input ∷ rest.0,
            rw (take-append-drop piece_length input) at
                (full {piece = take piece_length input} {rest = drop piece_length input}
                (length-take-le piece_length input (omega arith)) rest.1),
          )
    ]
