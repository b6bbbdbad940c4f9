use Rattle.std.proofs.Common.{pos, negsuc, ◌-ℤ◌, w64, arith}
use Rattle.std.proofs.lemmas.Int.{ints, to_z-of_z}
use Rattle.std.specs.Prelude.{int_rem}
use Rattle.alma_base.proofs.Division.{remainder_below, nonzero_divides, one_less_fits, below_shifted_fits, quotient_below_fits}
use Rattle.alma_base.proofs.Division.{rest_below_fits, remainder_below_fits}
use Rattle.alma_base.proofs.number.mod_below.Goals as goal

pub overflow_sub-result : goal.overflow_sub-result
overflow_sub-result c = rw (to_z-of_z w64 c.args.b c.ranges.b) (one_less_fits c.args.b c.ranges.b c.requires.positive)

pub overflow_sub-result-2 : goal.overflow_sub-result-2
overflow_sub-result-2 c = rw (to_z-of_z w64 c.args.a c.ranges.a) (below_shifted_fits c.args.a c.ranges.a c.requires.negative)

pub nonzero_rem-result : goal.nonzero_rem-result
nonzero_rem-result c =
    let a = c.args.a in
    let b = c.args.b in (
      nonzero_divides b c.ranges.b (λ e. omega (arith, ints)),
      rw (
        to_z-of_z w64 a c.ranges.a,
        to_z-of_z w64 (negsuc 0 -ℤ a) (below_shifted_fits a c.ranges.a c.requires.negative),
        to_z-of_z w64 b c.ranges.b,
      )
          (quotient_below_fits a b c.ranges.a c.requires.negative c.requires.positive),
    )

pub overflow_sub-result-3 : goal.overflow_sub-result-3
overflow_sub-result-3 c =
    let a = c.args.a in
    let b = c.args.b in
    rw (
      to_z-of_z w64 a c.ranges.a,
      to_z-of_z w64 b c.ranges.b,
      to_z-of_z w64 (negsuc 0 -ℤ a) (below_shifted_fits a c.ranges.a c.requires.negative),
      to_z-of_z w64 (b -ℤ pos 1) (one_less_fits b c.ranges.b c.requires.positive),
      to_z-of_z w64 (int_rem (negsuc 0 -ℤ a) b) (rest_below_fits a b c.ranges.a c.requires.negative),
    )
    (remainder_below_fits a b c.ranges.b c.requires.negative c.requires.positive)

pub returns : goal.returns
returns c =
    let a = c.args.a in
    let b = c.args.b in
    rw (
      to_z-of_z w64 a c.ranges.a,
      to_z-of_z w64 b c.ranges.b,
      to_z-of_z w64 (negsuc 0 -ℤ a) (below_shifted_fits a c.ranges.a c.requires.negative),
      to_z-of_z w64 (b -ℤ pos 1) (one_less_fits b c.ranges.b c.requires.positive),
      to_z-of_z w64 (int_rem (negsuc 0 -ℤ a) b) (rest_below_fits a b c.ranges.a c.requires.negative),
      to_z-of_z w64 ((b -ℤ pos 1) -ℤ int_rem (negsuc 0 -ℤ a) b)
          (remainder_below_fits a b c.ranges.b c.requires.negative c.requires.positive),
    )
    (remainder_below a b c.requires.negative c.requires.positive)
