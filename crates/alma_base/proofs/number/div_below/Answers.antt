use Rattle.std.proofs.Common.{negsuc, ◌-ℤ◌, w64, arith}
use Rattle.std.proofs.lemmas.Int.{ints, to_z-of_z}
use Rattle.std.specs.Prelude.{int_div}
use Rattle.alma_base.proofs.Division.{quotient_below, nonzero_divides, below_shifted_fits, quotient_below_fits, quotient_below_less_fits}
use Rattle.alma_base.proofs.number.div_below.Goals as goal

pub overflow_sub-result : goal.overflow_sub-result
overflow_sub-result c = rw (to_z-of_z w64 c.args.a c.ranges.a) (below_shifted_fits c.args.a c.ranges.a c.requires.negative)

pub nonzero_div-result : goal.nonzero_div-result
nonzero_div-result c =
    let a = c.args.a in
    let b = c.args.b in (
      nonzero_divides b c.ranges.b (λ e. omega (arith, ints)),
      rw (
        to_z-of_z w64 a c.ranges.a,
        to_z-of_z w64 (negsuc 0 -ℤ a) (below_shifted_fits a c.ranges.a c.requires.negative),
        to_z-of_z w64 b c.ranges.b,
      )
          (quotient_below_fits a b c.ranges.a c.requires.negative c.requires.positive),
    )

pub overflow_sub-result-2 : goal.overflow_sub-result-2
overflow_sub-result-2 c =
    let a = c.args.a in
    let b = c.args.b in
    rw (
      to_z-of_z w64 a c.ranges.a,
      to_z-of_z w64 b c.ranges.b,
      to_z-of_z w64 (negsuc 0 -ℤ a) (below_shifted_fits a c.ranges.a c.requires.negative),
      to_z-of_z w64 (int_div (negsuc 0 -ℤ a) b) (quotient_below_fits a b c.ranges.a c.requires.negative c.requires.positive),
    )
    (quotient_below_less_fits a b c.ranges.a c.requires.negative c.requires.positive)

pub returns : goal.returns
returns c =
    let a = c.args.a in
    let b = c.args.b in
    rw (
      to_z-of_z w64 a c.ranges.a,
      to_z-of_z w64 b c.ranges.b,
      to_z-of_z w64 (negsuc 0 -ℤ a) (below_shifted_fits a c.ranges.a c.requires.negative),
      to_z-of_z w64 (int_div (negsuc 0 -ℤ a) b) (quotient_below_fits a b c.ranges.a c.requires.negative c.requires.positive),
      to_z-of_z w64 (negsuc 0 -ℤ int_div (negsuc 0 -ℤ a) b)
          (quotient_below_less_fits a b c.ranges.a c.requires.negative c.requires.positive),
    )
    (quotient_below a b c.requires.negative c.requires.positive)
