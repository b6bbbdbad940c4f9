use Rattle.std.proofs.Common.{◌≡◌, ◌≤◌, ◌-◌, ◌^◌, ℕ, Bool, false, nat_lt, length, drop, min}
use Rattle.alma_base.specs.Reading.{digits_on}
use Rattle.alma_base.proofs.reading.read_digits.Given as goal

-- the digits that were passed make the value
abbrev pub invariant-loop-end : goal.invariant-loop-end
invariant-loop-end l = record {
  begun : l.start ≤ l.end;
  within : l.end ≤ length l.input;
  passed : (value : ℕ) × (l.magnitude ≡ min value (2 ^ 64 - 1)) × ((negative : Bool) →
      digits_on false negative 0 l.start (drop l.start l.input) ≡ digits_on (nat_lt l.start l.end) negative value l.end
      (drop l.end l.input));
}

abbrev pub decreases-loop-end : goal.decreases-loop-end
decreases-loop-end l = length l.input - l.end
