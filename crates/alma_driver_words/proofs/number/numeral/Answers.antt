use Rattle.std.proofs.Common.{◌≡◌, ◌<◌, ◌+◌, ◌-◌, ◌*◌, ◌∙◌, ap, sym, get_or, drop, arith}
use Rattle.std.specs.Prelude.{true, false}
use Rattle.alma_base.specs.Reading.{is_digit}
use Rattle.alma_scan.specs.Bytes.{value_behind}
use Rattle.alma_driver_words.proofs.NumberLemmas.{not_digits, not_small, value_more, digits_more, digit_small}
use Rattle.alma_driver_words.proofs.number.numeral.Goals as goal

pub returns-then-not-is_ascii_digit : goal.returns-then-not-is_ascii_digit
returns-then-not-is_ascii_digit c =
    let digit = get_or c.args.digits.now c.loop-digit.digit-index 0 in
    let no : is_digit digit ≡ false = sym c.is_ascii_digit.ensures.value ∙ c.if-not-is_ascii_digit.true in
    not_digits c.args.digits.now c.loop-digit.digit-index c.args.most c.args.greatest c.loop-digit-test.true no

pub returns-then-number-greatest : goal.returns-then-number-greatest
returns-then-number-greatest c =
    let digit = get_or c.args.digits.now c.loop-digit.digit-index 0 in
    let large : c.args.greatest < c.loop-digit.number * 10 + (digit - 48) = omega (arith, c.if-number-greatest.true, c.from-more.ensures) in
    not_small c.args.digits.now c.loop-digit.digit-index c.loop-digit.number c.args.most c.args.greatest c.loop-digit-test.true large
    c.loop-digit.invariant.value

pub loop-digit-preserved : goal.loop-digit-preserved
loop-digit-preserved c =
    let digit = get_or c.args.digits.now c.loop-digit.digit-index 0 in
    let yes : is_digit digit ≡ true = sym c.is_ascii_digit.ensures.value ∙ c.if-not-is_ascii_digit.false in
    record {
      value = ap (λ more. value_behind (c.loop-digit.number * 10 + more) (drop (c.loop-digit.digit-index + 1) c.args.digits.now))
          c.from-more.ensures
          ∙ sym (value_more c.args.digits.now c.loop-digit.digit-index c.loop-digit.number c.loop-digit-test.true)
          ∙ c.loop-digit.invariant.value;
      small = omega (arith, c.if-number-greatest.false, c.from-more.ensures, digit_small digit yes, c.requires);
      digits = digits_more c.args.digits.now c.loop-digit.digit-index c.loop-digit-test.true c.loop-digit.invariant.digits yes;
    }
