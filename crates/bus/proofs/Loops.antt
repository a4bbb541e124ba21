-- A loop down a list. Assumes nothing.
use Prim.Native.Nat.{ℕ, zero, suc, ◌-◌, ◌≤◌, ◌<◌}
use mathlib.Core.Path.{◌≡◌}
use mathlib.Core.List.{List, [], ◌∷◌}
use native.Mathlib.Omega.{arith}
use native.Mathlib.Nat.{suc-sub-suc, sub-zero}
use lib.ListN.{length, get_or, drop, drop_of_length-le}
use lib.Seq.{drop-cons}

-- Down: what is known is known of the list from the loop's place on.
module _ {A : Type 0} (l : List A) where
  pub none_yet : (n : ℕ) → length l ≡ n → drop n l ≡ []
  none_yet n whole = drop_of_length-le l {i = n} (omega arith)

  pub place_before :
      (n i : ℕ) (z : A) → length l ≡ n → 0 < i → i ≤ n → drop (i - 1) l ≡ get_or l (i - 1) z ∷ drop i l
  place_before n zero z whole k m = absurd (omega arith)
  place_before n (suc j) z whole k m = rw (suc-sub-suc j 0, sub-zero j) (drop-cons l j z (omega arith))
