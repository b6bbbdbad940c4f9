use Rattle.std.proofs.Common.{◌<◌, arith}
use Rattle.std.proofs.lemmas.Bool.Decides.{nat_tests}
use Rattle.alma_scan.specs.Bytes.{value_of}
use Rattle.alma_scan.specs.Spellings.{greatest_number}
use Rattle.alma_scan.proofs.Values.{value_behind_past}
use Rattle.alma_scan.proofs.front.is_number.Goals as goal

pub returns-then-value-more : goal.returns-then-value-more
returns-then-value-more c =
    let past = value_behind_past c.args.digits.now c.loop-digit.digit-index c.loop-digit.value 9223372036854775808 c.loop-digit-test.true
    (omega (arith, c.if-value-more.true, c.from-more.ensures)) in
    let large : greatest_number < value_of c.args.digits.now = omega (arith, past, c.loop-digit.invariant.value) in
    grind (arith, nat_tests, large)
