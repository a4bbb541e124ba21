-- The ports of a machine, as the code goes through them. Assumes nothing.
use Prim.Native.Nat.{ℕ, ◌+◌, ◌*◌, ◌-◌, ◌^◌, ◌≤◌, ◌<◌}
use mathlib.Core.Path.{◌≡◌, refl}
use mathlib.Core.Bool.{Bool, true, false, cond}
use mathlib.Core.List.{List, [], ◌∷◌, map}
use native.Mathlib.Omega.{arith}
use native.Mathlib.Nat.{pow-suc, pow-le-pow_right}
use lib.ListN.{length, get_or, drop, length-map, length-drop}
use mir.Syntax.{w8}
use mir.Val.{bool_byte, Fits}
use Rattle.std.specs.List.{list_all}
use Rattle.devices.proofs.Laws.Cases.{chosen}
use Rattle.devices.specs.Apbuart as uart
use Rattle.devices.specs.Apbuart.View.{port_of}
use Rattle.devices.specs.declared.apbuart.Apbuart.{Apbuart}
use Rattle.bus.specs.Machine.{all_well, levels_of}
use Rattle.bus.proofs.Loops.{none_yet, place_before}

-- Whether every port is well formed, as one test of each.
pub all_listed : (ps : List Apbuart) → all_well (map port_of ps) ≡ list_all (λ p. uart.well_formed (port_of p)) ps
unfolding all_well
all_listed [] = refl
all_listed (p ∷ ps) = rw (all_listed ps) refl

-- The line levels, from the last port down.
byte_level : (b : Bool) → bool_byte b ≡ cond b 1 0
byte_level true = refl
byte_level false = refl

levels_fit : (ps : List uart.Port) → levels_of ps < 2 ^ length ps
unfolding levels_of
levels_fit [] = omega arith
levels_fit (p ∷ ps) =
    let rest : levels_of ps < 2 ^ length ps = levels_fit ps in
    rw pow-suc (chosen (λ b (x : ℕ). x + 2 * levels_of ps < 2 ^ length ps * 2) p.level 1 0 (omega arith) (omega arith))

module _ (ps : List Apbuart) (i x : ℕ) (whole : length ps ≡ 6) (so_far : x ≡ levels_of (map port_of (drop i ps))) where
  levels_below : 0 < i → i ≤ 6 → x < 2 ^ 5
  levels_below l k =
      let left : length (map port_of (drop i ps)) ≡ 6 - i = rw (length-map, length-drop, whole) refl in
      let small : levels_of (map port_of (drop i ps)) < 2 ^ (6 - i) = rw (← left) (levels_fit (map port_of (drop i ps))) in
      let more : 2 ^ (6 - i) ≤ 2 ^ 5 = pow-le-pow_right (omega arith) {i = 6 - i} {j = 5} (omega arith) in
      omega arith

  pub levels_double : 0 < i → i ≤ 6 → Fits w8 (x * 2)
  levels_double l k = record { fits = omega (arith, levels_below l k) }

  pub levels_join : (b : Bool) → 0 < i → i ≤ 6 → Fits w8 (x * 2 + bool_byte b)
  levels_join b l k =
      record {
        fits =
            let small : x < 2 ^ 5 = levels_below l k in
            rw byte_level (chosen (λ b (y : ℕ). x * 2 + y < 2 ^ 8) b 1 0 (omega arith) (omega arith));
      }

pub levels_none : (ps : List Apbuart) → length ps ≡ 6 → 0 ≡ levels_of (map port_of (drop 6 ps))
unfolding levels_of
levels_none ps whole = rw (none_yet ps 6 whole) refl

pub levels_more :
    (ps : List Apbuart) (n i x : ℕ) (z : Apbuart) → length ps ≡ n → 0 < i → i ≤ n →
    x ≡ levels_of (map port_of (drop i ps)) →
    x * 2 + bool_byte (get_or ps (i - 1) z).level ≡ levels_of (map port_of (drop (i - 1) ps))
unfolding levels_of
levels_more ps n i x z whole l k e = rw (place_before ps n i z whole l k, e, byte_level) (omega arith)
