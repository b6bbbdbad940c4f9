use Rattle.std.proofs.Common.{◌≡◌, ◌≤◌, ◌<◌, ◌-◌, List, length, get_or}
use Rattle.alma_code.specs.declared.head.Run.{Run}
use Rattle.alma_verify.specs.Runs.{begin_from, no_run}
use Rattle.alma_verify.proofs.halving.passed_runs.Given as goal

abbrev pub invariant-halve : goal.invariant-halve
invariant-halve g l =
    let runs : List Run = (g.H.Head.head l.head).runs in
    record {
      order : l.low ≤ l.high;
      top : l.high ≤ l.count;
      count : l.count ≡ length runs;
      from : begin_from 0 runs l.low ≤ l.slot;
      below : l.high < length runs → l.slot < (get_or runs l.high no_run).end;
    }

abbrev pub decreases-halve : goal.decreases-halve
decreases-halve g l = l.high - l.low
