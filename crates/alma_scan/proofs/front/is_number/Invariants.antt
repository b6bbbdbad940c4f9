use Rattle.std.proofs.Common.{◌≡◌, ◌≤◌, drop}
use Rattle.alma_base.specs.Reading.{is_digit}
use Rattle.alma_scan.specs.Bytes.{AllIn, value_behind}
use Rattle.alma_scan.specs.Spellings.{greatest_number}
use Rattle.alma_scan.proofs.front.is_number.Given as goal

abbrev pub invariant-loop-digit : goal.invariant-loop-digit
invariant-loop-digit l = record {
  value : value_behind l.value (drop l.digit-index l.digits) ≡ value_behind 0 l.digits;
  small : l.value ≤ greatest_number;
  digits : AllIn is_digit (drop l.digit-index l.digits);
}
