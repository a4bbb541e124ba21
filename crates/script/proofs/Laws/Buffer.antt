-- Writing into a list, one byte and one part after the other. Assumes nothing.
use Rattle.std.specs.Prelude.{ℕ, ◌+◌, ◌≤◌, ◌<◌, ◌≡◌, refl, List, [], ◌∷◌, ◌++◌, length, get_or, take, drop, set}
use Rattle.std.proofs.Common.{sym, ap, ◌∙◌, append_assoc, arith, add-one, add-zero, add_assoc, length-append, take-append-drop, take_at, drop_at, drop-drop, take-suc, take_all, length-take-le}
use Rattle.std.proofs.lemmas.List.{set_split}
use Rattle.script.specs.Buffer.{wrote}

-- Nothing.
pub none_written : (l : List ℕ) (i : ℕ) → l ≡ wrote l i []
unfolding wrote
none_written l i = rw (add-zero i) (sym (take-append-drop i l))

-- Two parts, one behind the other.
pub wrote_join :
    (l xs ys : List ℕ) (i j : ℕ) → length xs ≡ j → i + j ≤ length l → wrote (wrote l i xs) (i + j) ys ≡ wrote l i (xs ++ ys)
unfolding wrote
wrote_join l xs ys i j e h =
    let front : length (take i l ++ xs) ≡ i + j = rw (length-append, length-take-le i l (omega arith), e) refl in
    let behind = drop (i + j) l in
    let whole : wrote l i xs ≡ (take i l ++ xs) ++ behind = rw (e, append_assoc) refl in
    let head : take (i + j) (wrote l i xs) ≡ take i l ++ xs =
    ap (take (i + j)) whole ∙ take_at (take i l ++ xs) behind (i + j) front in
    let tail : drop (i + j + length ys) (wrote l i xs) ≡ drop (i + (j + length ys)) l =
    sym (drop-drop (length ys) (i + j) (wrote l i xs)) ∙
    ap (λ (r : List ℕ). drop (length ys) r) (ap (drop (i + j)) whole ∙ drop_at (take i l ++ xs) behind (i + j) front) ∙
    drop-drop (length ys) (i + j) l ∙ ap (λ (n : ℕ). drop n l) (add_assoc i j (length ys)) in
    rw (head, tail, length-append, e, append_assoc, append_assoc) refl

-- One byte, and one more.
pub wrote_one : (l : List ℕ) (i x : ℕ) → i < length l → set l i x ≡ wrote l i (x ∷ [])
unfolding wrote
wrote_one l i x h = rw (add-one i) (set_split l i x h)

pub wrote_next :
    (l₀ l vs : List ℕ) (at i n : ℕ) → l ≡ wrote l₀ at (take i vs) → i < n → length vs ≡ n → at + n ≤ length l₀ →
    length l ≡ length l₀ → set l (at + i) (get_or vs i 0) ≡ wrote l₀ at (take (i + 1) vs)
wrote_next l₀ l vs at i n e h k room same =
    wrote_one l (at + i) (get_or vs i 0) (omega arith) ∙
    rw (e, add-one i, take-suc vs i 0 (omega arith))
    (wrote_join l₀ (take i vs) (get_or vs i 0 ∷ []) at i (length-take-le i vs (omega arith)) (omega arith))

pub wrote_all :
    (l₀ l vs ws : List ℕ) (at i n : ℕ) → l ≡ wrote l₀ at (take i vs) → n ≤ i → length vs ≡ n → vs ≡ ws → l ≡ wrote l₀ at ws
wrote_all l₀ l vs ws at i n e h k f = rw (← f) (e ∙ rw (take_all i vs (omega arith)) refl)
