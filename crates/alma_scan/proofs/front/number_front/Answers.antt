use Rattle.std.proofs.Common.{◌≡◌, ◌++◌, arith, subst, sym, ◌∙◌, true}
use Rattle.std.specs.Prelude.{nat_le}
use Rattle.std.proofs.lemmas.Bool.Decides.{nat_tests}
use Rattle.alma_base.specs.Reading.{is_digit}
use Rattle.alma_scan.specs.Bytes.{Begins, value_of}
use Rattle.alma_scan.specs.Spellings.{greatest_number}
use Rattle.alma_scan.proofs.Standing.{number_token}
use Rattle.alma_scan.proofs.front.number_front.Goals as goal

pub returns-then-is_number : goal.returns-then-is_number
returns-then-is_number c =
    let text = c.split_run.result.0.now in
    let rest = c.split_run.result.1.now in
    let first : Begins is_digit (text ++ rest) = subst (Begins is_digit) c.split_run.ensures.whole c.requires in
    let small : nat_le (value_of text) greatest_number ≡ true = sym c.is_number.ensures ∙ c.if-is_number.true in
    record {
      whole = c.split_run.ensures.whole;
      token = number_token text rest first c.split_run.ensures.run c.split_run.ensures.stop (grind (arith, nat_tests, small));
    }
