use Rattle.std.proofs.Common.{◌≡◌, ◌≤◌, ◌-◌, length, drop}
use Rattle.alma_base.specs.Reading.{number_on, number_from}
use Rattle.alma_base.proofs.reading.skip_blanks.Given as goal

-- only blanks were passed
abbrev pub invariant-loop-place : goal.invariant-loop-place
invariant-loop-place l = record {
  within : l.place ≤ length l.input;
  passed : number_from l.input l.from ≡ number_on l.place (drop l.place l.input);
}

abbrev pub decreases-loop-place : goal.decreases-loop-place
decreases-loop-place l = length l.input - l.place
