use Rattle.std.proofs.Common.{pos, ◌+ℤ◌, ◌-ℤ◌, w64, arith}
use Rattle.std.proofs.lemmas.Int.{ints, to_z-of_z}
use Rattle.std.specs.Prelude.{int_rem}
use Rattle.alma_base.proofs.Division.{remainder_above, nonzero_divides, one_more_fits, above_shifted_fits, quotient_above_fits}
use Rattle.alma_base.proofs.Division.{rest_above_fits, remainder_above_fits}
use Rattle.alma_base.proofs.number.mod_above.Goals as goal

pub overflow_add-result : goal.overflow_add-result
overflow_add-result c = rw (to_z-of_z w64 c.args.b c.ranges.b) (one_more_fits c.args.b c.ranges.b c.requires.negative)

pub overflow_sub-result : goal.overflow_sub-result
overflow_sub-result c = rw (to_z-of_z w64 c.args.a c.ranges.a) (above_shifted_fits c.args.a c.ranges.a c.requires.positive)

pub nonzero_rem-result : goal.nonzero_rem-result
nonzero_rem-result c =
    let a = c.args.a in
    let b = c.args.b in (
      nonzero_divides b c.ranges.b (λ e. omega (arith, ints)),
      rw (
        to_z-of_z w64 a c.ranges.a,
        to_z-of_z w64 (pos 1 -ℤ a) (above_shifted_fits a c.ranges.a c.requires.positive),
        to_z-of_z w64 b c.ranges.b,
      )
          (quotient_above_fits a b c.ranges.a c.requires.positive c.requires.negative),
    )

pub overflow_sub-result-2 : goal.overflow_sub-result-2
overflow_sub-result-2 c =
    let a = c.args.a in
    let b = c.args.b in
    rw (
      to_z-of_z w64 a c.ranges.a,
      to_z-of_z w64 b c.ranges.b,
      to_z-of_z w64 (pos 1 -ℤ a) (above_shifted_fits a c.ranges.a c.requires.positive),
      to_z-of_z w64 (b +ℤ pos 1) (one_more_fits b c.ranges.b c.requires.negative),
      to_z-of_z w64 (int_rem (pos 1 -ℤ a) b) (rest_above_fits a b c.ranges.a c.requires.positive c.requires.negative),
    )
    (remainder_above_fits a b c.ranges.b c.requires.positive c.requires.negative)

pub returns : goal.returns
returns c =
    let a = c.args.a in
    let b = c.args.b in
    rw (
      to_z-of_z w64 a c.ranges.a,
      to_z-of_z w64 b c.ranges.b,
      to_z-of_z w64 (pos 1 -ℤ a) (above_shifted_fits a c.ranges.a c.requires.positive),
      to_z-of_z w64 (b +ℤ pos 1) (one_more_fits b c.ranges.b c.requires.negative),
      to_z-of_z w64 (int_rem (pos 1 -ℤ a) b) (rest_above_fits a b c.ranges.a c.requires.positive c.requires.negative),
      to_z-of_z w64 ((b +ℤ pos 1) -ℤ int_rem (pos 1 -ℤ a) b) (remainder_above_fits a b c.ranges.b c.requires.positive c.requires.negative),
    )
    (remainder_above a b c.requires.positive c.requires.negative)
