-- An index inside its range is inside the array.
use Rattle.std.proofs.Common.{◌≡◌, ℕ, ◌+◌, ◌*◌, ◌<◌, ◌≤◌, arith}
use Rattle.std.specs.Prelude.{ℤ, pos, ◌-ℤ◌, ◌≤ℤ◌, int_le, nat_abs, true, ◌&&◌}
use Rattle.std.proofs.lemmas.Bool.{and_parts}
use Rattle.std.proofs.lemmas.Int.{ints}
use Rattle.std.proofs.lemmas.Float.{T_from_true}
use Rattle.std.proofs.Math.Nat.{mul-le-mul_right}
use Rattle.std.specs.Int.Signed.{le_z_yes, pos-nat_abs, yes_non_neg}

-- a number of a range is no further from its low end than the high end is
pub offset_le : (low v high : ℤ) → low ≤ℤ v → v ≤ℤ high → nat_abs (v -ℤ low) ≤ nat_abs (high -ℤ low)
offset_le low v high a b =
    let p : pos 0 ≤ℤ (v -ℤ low) = omega (arith, ints) in
    let q : pos 0 ≤ℤ (high -ℤ low) = omega (arith, ints) in
    let x : pos (nat_abs (v -ℤ low)) ≡ v -ℤ low = pos-nat_abs (v -ℤ low) (yes_non_neg p) in
    let y : pos (nat_abs (high -ℤ low)) ≡ high -ℤ low = pos-nat_abs (high -ℤ low) (yes_non_neg q) in
    omega (arith, ints)

-- a part at an index of a range is inside what has room for all of them
pub offset_within : (low v high : ℤ) (l k n : ℕ) → (int_le low v && int_le v high) ≡ true → (nat_abs (high -ℤ low) + 1) * l ≤ n → k < l
    → nat_abs (v -ℤ low) * l + k < n
offset_within low v high l k n e room lt =
    let x = and_parts (int_le low v) (int_le v high) e in
    let a : low ≤ℤ v = le_z_yes (T_from_true (int_le low v) x.0) in
    let b : v ≤ℤ high = le_z_yes (T_from_true (int_le v high) x.1) in
    let le = offset_le low v high a b in
    omega (arith, mul-le-mul_right l le)
