-- The value of digits only grows.
use Rattle.std.proofs.Common.{◌≡◌, ◌≤◌, ◌<◌, ℕ, suc, ◌+◌, ◌-◌, ◌*◌, List, [], ◌∷◌, drop, length, get_or, drop-cons, ap, arith}
use Rattle.alma_scan.specs.Bytes.{value_behind}

-- more digits give no smaller value
value_behind-ge : (digits : List ℕ) (value : ℕ) → value ≤ value_behind value digits
value_behind-ge [] value = omega arith
value_behind-ge (d ∷ digits) value = let more = value_behind-ge digits (value * 10 + (d - 48)) in omega (arith, more)

-- digits of which the first are too large are too large
pub value_behind_past : (digits : List ℕ) (i value limit : ℕ) → i < length digits → limit ≤ value * 10 + (get_or digits i 0 - 48)
    → limit ≤ value_behind value (drop i digits)
value_behind_past digits i value limit h k =
    let e : value_behind value (drop i digits) ≡ value_behind (value * 10 + (get_or digits i 0 - 48)) (drop (suc i) digits) =
    ap (value_behind value) (drop-cons digits i 0 h) in
    let more = value_behind-ge (drop (suc i) digits) (value * 10 + (get_or digits i 0 - 48)) in
    omega (arith, e, more)
