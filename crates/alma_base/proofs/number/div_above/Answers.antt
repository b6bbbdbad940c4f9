use Rattle.std.proofs.Common.{rules, pos, negsuc, ◌-ℤ◌, w64, FitsSigned, arith}
use Rattle.std.proofs.lemmas.Int.{ints, to_z-of_z}
use Rattle.std.specs.Prelude.{int_div}
use Rattle.alma_base.proofs.Division.{quotient_above, quotient_above_fits, quotient_above_less_fits}
use Rattle.alma_base.proofs.number.div_above.Goals as goal

pub returns : goal.returns
returns c =
    let a = c.args.a in
    let b = c.args.b in
    let fits_a : FitsSigned w64 a = search rules in
    let fits_b : FitsSigned w64 b = search rules in
    let fits_less : FitsSigned w64 (pos 1 -ℤ a) = omega (arith, ints) in
    let fits_quotient : FitsSigned w64 (int_div (pos 1 -ℤ a) b) = quotient_above_fits a b fits_a c.requires.positive c.requires.negative in
    let fits : FitsSigned w64 (negsuc 0 -ℤ int_div (pos 1 -ℤ a) b) =
    quotient_above_less_fits a b fits_a c.requires.positive c.requires.negative in
    rw (
      to_z-of_z w64 a fits_a,
      to_z-of_z w64 b fits_b,
      to_z-of_z w64 (pos 1 -ℤ a) fits_less,
      to_z-of_z w64 (int_div (pos 1 -ℤ a) b) fits_quotient,
      to_z-of_z w64 (negsuc 0 -ℤ int_div (pos 1 -ℤ a) b) fits,
    )
    (quotient_above a b c.requires.positive c.requires.negative)
