-- A log record as six numbers of 8 bytes. Assumes nothing.
use Prim.Native.Nat.{ℕ, ◌+◌, ◌*◌, ◌^◌, ◌≤◌, ◌<◌}
use mathlib.Core.Path.{◌≡◌, refl, ap, ◌∙◌}
use mathlib.Core.Bool.{Bool, true, false}
use mathlib.Core.List.{List, [], ◌∷◌, ◌++◌, append_assoc, append-nil}
use native.Mathlib.Omega.{arith}
use native.Mathlib.Numerals.{add-one}
use lib.ListN.{length, take, get_or, length-append}
use lib.Seq.{take-suc, take_all, length-take-le}
use Rattle.std.specs.Int.{from_bool}
use Rattle.bus.specs.Machine as bus
use Rattle.bus.specs.Machine.{Machine}
use Rattle.script.specs.Number.{encoded}
use Rattle.script.proofs.Laws.Number.{encoded_join, length_encoded}
use Rattle.script.specs.Buffer.{wrote}
use Rattle.script.specs.Log.{entry}
use Rattle.script.specs.Private.{longs, first_long, six_longs}
use Rattle.script.proofs.Laws.Buffer.{wrote_join}

-- The first 8 bytes as one number.
module _ (refusal byte levels value : ℕ) (b : byte < 256) (l : levels < 256) (v : value < 2 ^ 32) where
  joined :
      (flag : ℕ) → flag ≤ 1 →
      encoded 8 ((((refusal * 256 + flag) * 256 + byte) * 256 + levels) * 4294967296 + value) ≡
      encoded 1 refusal ++ encoded 1 flag ++ encoded 1 byte ++ encoded 1 levels ++ encoded 4 value
  joined flag bit =
      rw (
        encoded_join 4 4 (((refusal * 256 + flag) * 256 + byte) * 256 + levels) value (omega arith),
        encoded_join 3 1 ((refusal * 256 + flag) * 256 + byte) levels (omega arith),
        encoded_join 2 1 (refusal * 256 + flag) byte (omega arith),
        encoded_join 1 1 refusal flag (omega arith),
      ) refl

  pub first_joined :
      (emitted : Bool) →
      encoded 8 ((((refusal * 256 + from_bool emitted) * 256 + byte) * 256 + levels) * 4294967296 + value) ≡
      first_long refusal emitted byte levels value
  first_joined true = joined 1 (omega arith)
  first_joined false = joined 0 (omega arith)

length_longs : (ns : List ℕ) → length (longs ns) ≡ 8 * length ns
length_longs [] = refl
length_longs (n ∷ ns) = rw (length-append, length_encoded 8 n, length_longs ns) (omega arith)

longs_append : (ms ns : List ℕ) → longs (ms ++ ns) ≡ longs ms ++ longs ns
longs_append [] ns = refl
longs_append (m ∷ ms) ns = rw (longs_append ms ns, append_assoc) refl

-- The numbers are written one after the other.
module _ (l₀ l : List ℕ) (at i : ℕ) (ns : List ℕ) (so_far : l ≡ wrote l₀ at (longs (take i ns))) where
  pub next_long :
      (l' : List ℕ) → l' ≡ wrote l (at + 8 * i) (encoded 8 (get_or ns i 0)) → i < length ns → at + 8 * i ≤ length l₀ →
      l' ≡ wrote l₀ at (longs (take (i + 1) ns))
  next_long l' f h k =
      let n = get_or ns i 0 in
      let before = longs (take i ns) in
      let many : length before ≡ 8 * i = length_longs (take i ns) ∙ rw (length-take-le i ns (omega arith)) refl in
      let more : longs (take (i + 1) ns) ≡ before ++ encoded 8 n =
      rw (
        add-one i,
        take-suc ns i 0 h,
        longs_append (take i ns) (get_or ns i 0 ∷ []),
        append-nil (encoded 8 n),
      ) refl in
      f ∙ rw (so_far, more) (wrote_join l₀ before (encoded 8 n) at (8 * i) many k)

  pub all_longs : length ns ≤ i → l ≡ wrote l₀ at (longs ns)
  all_longs h = so_far ∙ rw (take_all i ns h) refl

-- A whole record, with the levels of the machine after the call.
pub whole_entry :
    (l l' : List ℕ) (at first levels refusal : ℕ) (emitted : Bool) (byte value cycles : ℕ) (pulses : List ℕ) (m : Machine) →
    levels ≡ bus.levels m → encoded 8 first ≡ first_long refusal emitted byte levels value →
    l' ≡ wrote l at (longs (six_longs first cycles pulses)) →
    l' ≡ wrote l at (entry (bus.answered refusal emitted byte value cycles pulses m))
unfolding entry
whole_entry l l' at first levels refusal emitted byte value cycles pulses m e f g =
    g ∙ ap (wrote l at) (rw (f, e) (simp (append_assoc, append-nil)))
