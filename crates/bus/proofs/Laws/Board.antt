-- What follows from the definitions of the windows, for every table. Assumes nothing.
use Rattle.std.specs.Prelude.{ℕ, zero, suc, ◌≤◌, ◌<◌, ◌≡◌, refl, true, false, List, [], ◌∷◌, ltb, leb, length, get_or, Some}
use Rattle.std.proofs.Common.{sym, ◌∙◌, true≢false, arith, le-ltb, le-leb, leb-true, ltb-true}
use Rattle.std.proofs.Math.Bool.{and-eq-true_iff}
use Rattle.std.proofs.Math.Decide.{dec_lt}
use Rattle.std.proofs.lemmas.Bool.{lt-leb}
use Rattle.bus.specs.Board.{end, holds, window_at, apart, apart_from, all_apart}
use Rattle.bus.specs.declared.board.Window.{Window}

-- Where two windows are apart, an address that lies in one lies outside the other.
elsewhere : (address : ℕ) (v w : Window) → apart v w ≡ true → holds address w ≡ true → holds address v ≡ false
elsewhere address v w e h =
    let within = (and-eq-true_iff (leb w.base address) (ltb address (end w))).0 h in
    let from : w.base ≤ address = leb-true w.base address within.0 in
    let to : address < end w = ltb-true address (end w) within.1 in
    elim (dec_lt address v.base) [
      | yes below ↦ rw (lt-leb v.base address below) refl
      | no above ↦
          elim (dec_lt address (end v)) [
            | yes inside ↦
                absurd
                (true≢false
                (sym e ∙ rw (lt-leb (end v) w.base (omega arith), lt-leb (end w) v.base (omega arith)) refl))
            | no behind ↦ rw (le-leb v.base address (omega arith), le-ltb address (end v) (omega arith)) refl
          ]
    ]

apart_at :
    (v : Window) (ws : List Window) (i : ℕ) (z : Window) → apart_from v ws ≡ true → i < length ws →
    apart v (get_or ws i z) ≡ true
apart_at v [] i z e l = absurd (omega arith)
apart_at v (w ∷ ws) zero z e l = ((and-eq-true_iff (apart v w) (apart_from v ws)).0 e).0
apart_at v (w ∷ ws) (suc i) z e l =
    apart_at v ws i z ((and-eq-true_iff (apart v w) (apart_from v ws)).0 e).1 (omega arith)

-- In a table whose windows do not overlap, a window that holds the address is the one that is found.
pub one_window :
    (ws : List Window) (address i : ℕ) (z : Window) → all_apart ws ≡ true → i < length ws →
    holds address (get_or ws i z) ≡ true → window_at address ws ≡ Some (get_or ws i z)
one_window [] address i z e l h = absurd (omega arith)
one_window (w ∷ ws) address zero z e l h = rw h refl
one_window (w ∷ ws) address (suc i) z e l h =
    let each = (and-eq-true_iff (apart_from w ws) (all_apart ws)).0 e in
    rw (elsewhere address w (get_or ws i z) (apart_at w ws i z each.0 (omega arith)) h)
    (one_window ws address i z each.1 (omega arith) h)
