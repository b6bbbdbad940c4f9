use Rattle.std.proofs.Common.{◌+◌, ◌-◌, ◌*◌, get_or, sym, ◌∙◌, arith}
use Rattle.alma_base.proofs.Numerals.{cut_once, one_digit_more}
use Rattle.alma_base.proofs.reading.read_digits.Goals as goal

pub loop-end-preserved : goal.loop-end-preserved
loop-end-preserved c =
    let input = c.args.input.now in
    let end = c.loop-end.end in
    let value = c.loop-end.invariant.passed.0 in
    let digit = get_or input end 0 - 48 in
    record {
      begun = omega arith;
      within = omega arith;
      passed = (
        value * 10 + digit,
        cc (cut_once 18446744073709551615 value digit, c.loop-end.invariant.passed.1),
        λ negative. c.loop-end.invariant.passed.2 negative
            ∙ one_digit_more input c.args.start end value negative c.loop-end.invariant.begun (omega arith)
            (sym c.is_digit.ensures ∙ c.if-is_digit.true),
      );
    }
