use Rattle.std.proofs.Common.{◌≤◌, ◌-◌, length, take}
use Rattle.alma_scan.specs.Bytes.{AllIn}
use Rattle.alma_scan.specs.Inner.Classes.{in_class}
use Rattle.alma_scan.proofs.byte.split_run.Given as goal

abbrev pub invariant-loop-count : goal.invariant-loop-count
invariant-loop-count l = record {
  within : l.count ≤ length l.bytes;
  front : AllIn (in_class l.class) (take l.count l.bytes);
}

abbrev pub decreases-loop-count : goal.decreases-loop-count
decreases-loop-count l = length l.bytes - l.count
