-- What a division that rounds down leaves lies between 0 and the divisor.
use Rattle.std.proofs.Common.{◌≡◌, zero, suc, ◌+◌, ◌*◌, ◌/◌, ◌%◌, ◌<◌, pos, negsuc, ◌*ℤ◌, neg_ℤ, refl, arith}
use Rattle.std.proofs.lemmas.Int.{ints}
use Rattle.std.proofs.Math.Nat.{div-add-mod, mod-lt, mul-suc, div-eq_of_lt}
use Rattle.alma_base.specs.Numbers.{RoundsDown}
use Rattle.alma_base.proofs.Division.{above_size}

pub rounds_down : RoundsDown
rounds_down a (pos zero) nonzero = absurd (nonzero refl)
rounds_down (pos a) (pos (suc b)) nonzero =
    let parts : suc b * (a / suc b) + a % suc b ≡ a = div-add-mod a (suc b) in
    let less : a % suc b < suc b = mod-lt a (omega arith) in
    let product : pos (suc b) *ℤ pos (a / suc b) ≡ pos (suc b * (a / suc b)) = refl in
    rw product (omega (arith, ints, parts, less), omega (arith, ints, parts, less))
rounds_down (negsuc a) (pos (suc b)) nonzero =
    let q = a / suc b in
    let parts : suc b * q + a % suc b ≡ a = div-add-mod a (suc b) in
    let less : a % suc b < suc b = mod-lt a (omega arith) in
    let product : pos (suc b) *ℤ negsuc q ≡ neg_ℤ (pos (suc b * suc q)) = refl in
    let whole : suc b * suc q ≡ suc b * q + suc b = mul-suc (suc b) q in
    rw (product, whole) (omega (arith, ints, parts, less), omega (arith, ints, parts, less))
rounds_down (pos zero) (negsuc b) nonzero =
    let nothing : (0 + b) / suc b ≡ 0 = div-eq_of_lt (omega arith) in
    rw nothing (omega (arith, ints), omega (arith, ints))
rounds_down (pos (suc a)) (negsuc b) nonzero =
    let q = a / suc b in
    let parts : suc b * q + a % suc b ≡ a = div-add-mod a (suc b) in
    let less : a % suc b < suc b = mod-lt a (omega arith) in
    let quotient : neg_ℤ (pos (q + 1)) ≡ negsuc q = omega (arith, ints) in
    let product : negsuc b *ℤ negsuc q ≡ pos (suc b * suc q) = refl in
    let whole : suc b * suc q ≡ suc b * q + suc b = mul-suc (suc b) q in
    rw (above_size a b, quotient, product, whole) (omega (arith, ints, parts, less), omega (arith, ints, parts, less))
rounds_down (negsuc a) (negsuc b) nonzero =
    let q = suc a / suc b in
    let parts : suc b * q + suc a % suc b ≡ suc a = div-add-mod (suc a) (suc b) in
    let less : suc a % suc b < suc b = mod-lt (suc a) (omega arith) in
    let product : negsuc b *ℤ pos q ≡ neg_ℤ (pos (suc b * q)) = refl in
    rw product (omega (arith, ints, parts, less), omega (arith, ints, parts, less))
