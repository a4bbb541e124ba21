-- What follows from the definition of numbers in bytes. Assumes nothing.
use Rattle.std.specs.Prelude.{ℕ, zero, suc, ◌+◌, ◌*◌, ◌^◌, ◌/◌, ◌%◌, ◌≤◌, ◌<◌, ◌≡◌, refl, List, [], ◌∷◌, ◌++◌, length, take, drop}
use Rattle.std.proofs.Common.{append_assoc, append-nil, arith, zero-add, add-zero, add-suc, add_assoc, div-add-mod', mul_assoc, pow-suc, div-lt_iff_lt-mul, length-append, length-drop, get_or-drop, take-suc}
use Rattle.std.proofs.Math.Nat.{add-mul-div_right, add-mul-mod_self_right}
use Rattle.std.proofs.Math.ListN.{get_or-append}
use Rattle.std.proofs.lemmas.List.{get_or_at, get_or-take}
use Rattle.script.specs.Number.{byte, number, encoded}

-- A number keeps to its width.
pub length_encoded : (count n : ℕ) → length (encoded count n) ≡ count
unfolding encoded
length_encoded zero n = refl
length_encoded (suc count) n = rw (length-append, length_encoded count (n / 256)) (omega arith)

-- Two numbers, one behind the other, are one.
pub encoded_join :
    (j k m n : ℕ) → n < 256 ^ k → encoded (j + k) (m * 256 ^ k + n) ≡ encoded j m ++ encoded k n
unfolding encoded
encoded_join j zero m n h =
    let alone : m * 256 ^ 0 + n ≡ m = omega arith in
    rw (add-zero j, alone, append-nil (encoded j m)) refl
encoded_join j (suc k) m n h =
    let shifted : m * 256 ^ suc k + n ≡ n + m * 256 ^ k * 256 = rw (pow-suc, ← mul_assoc m (256 ^ k) 256) (omega arith) in
    let front : (m * 256 ^ suc k + n) / 256 ≡ m * 256 ^ k + n / 256 =
    rw (shifted, add-mul-div_right n (m * 256 ^ k) {z = 256} (omega arith)) (omega arith) in
    let last : (m * 256 ^ suc k + n) % 256 ≡ n % 256 = rw (shifted, add-mul-mod_self_right n (m * 256 ^ k) 256) refl in
    let below : n / 256 < 256 ^ k = (div-lt_iff_lt-mul {k = 256} (omega arith)).1 (rw (← pow-suc) h) in
    rw (add-suc j k, front, last, encoded_join j k m (n / 256) below, append_assoc) refl

pub number_join :
    (at j k : ℕ) (bytes : List ℕ) → number at (j + k) bytes ≡ number at j bytes * 256 ^ k + number (at + j) k bytes
unfolding number
number_join at j zero bytes = rw (add-zero j) (omega arith)
number_join at j (suc k) bytes =
    rw (add-suc j k, number_join at j k bytes, pow-suc, ← mul_assoc (number at j bytes) (256 ^ k) 256, add_assoc at j k)
    (omega arith)

-- The number of some bytes is that of a copy of them.
pub number_cut :
    (at count n : ℕ) (bytes : List ℕ) → count ≤ n → number 0 count (take n (drop at bytes)) ≡ number at count bytes
unfolding number
number_cut at zero n bytes h = refl
number_cut at (suc count) n bytes h =
    rw (
      number_cut at count n bytes (omega arith),
      zero-add count,
      get_or-take n (drop at bytes) count 0 (omega arith),
      get_or-drop at bytes count 0,
    ) refl

-- What was encoded is read back.
number_front :
    (at count : ℕ) (bytes rest : List ℕ) → at + count ≤ length bytes →
    number at count (bytes ++ rest) ≡ number at count bytes
unfolding number
number_front at zero bytes rest h = refl
number_front at (suc count) bytes rest h =
    rw (number_front at count bytes rest (omega arith), get_or-append bytes rest 0 (at + count) (omega arith)) refl

pub number_encoded : (count n : ℕ) → n < 256 ^ count → number 0 count (encoded count n) ≡ n
unfolding number encoded
number_encoded zero n h = omega arith
number_encoded (suc count) n h =
    let below : n / 256 < 256 ^ count = (div-lt_iff_lt-mul {k = 256} (omega arith)).1 (rw (← pow-suc) h) in
    let long : length (encoded count (n / 256)) ≡ count = length_encoded count (n / 256) in
    rw (
      number_front 0 count (encoded count (n / 256)) (n % 256 ∷ []) (omega arith),
      number_encoded count (n / 256) below,
      zero-add count,
      get_or_at (encoded count (n / 256)) (n % 256) [] 0 count long,
    ) (div-add-mod' n 256)

-- What is read is encoded as it was.
pub encoded_number :
    (at count : ℕ) (bytes : List ℕ) → ((n : ℕ) → byte n bytes < 256) → at + count ≤ length bytes →
    encoded count (number at count bytes) ≡ take count (drop at bytes)
unfolding number encoded
encoded_number at zero bytes b h = refl
encoded_number at (suc count) bytes b h =
    let n = number at count bytes in
    let last = byte (at + count) bytes in
    let front : (n * 256 + last) / 256 ≡ n = omega (arith, b (at + count)) in
    let end : (n * 256 + last) % 256 ≡ last = omega (arith, b (at + count)) in
    rw (
      front,
      end,
      encoded_number at count bytes b (omega arith),
      take-suc (drop at bytes) count 0 (rw (length-drop at bytes) (omega arith)),
      get_or-drop at bytes count 0,
    ) refl
