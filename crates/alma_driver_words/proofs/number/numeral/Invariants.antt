use Rattle.std.proofs.Common.{◌≡◌, ◌≤◌, drop, take}
use Rattle.alma_base.specs.Reading.{is_digit}
use Rattle.alma_scan.specs.Bytes.{AllIn, value_behind}
use Rattle.alma_driver_words.proofs.number.numeral.Given as goal

abbrev pub invariant-loop-digit : goal.invariant-loop-digit
invariant-loop-digit l = record {
  value : value_behind l.number (drop l.digit-index l.digits) ≡ value_behind 0 l.digits;
  small : l.number ≤ l.greatest;
  digits : AllIn is_digit (take l.digit-index l.digits);
}
