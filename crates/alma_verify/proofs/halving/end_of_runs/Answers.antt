use Rattle.std.proofs.Common.{arith, ◌<◌, ◌≤◌, List, length, sym}
use Rattle.alma_code.specs.declared.head.Run.{Run}
use Rattle.alma_verify.proofs.SlotRuns.{end_read, end_none}
use Rattle.alma_verify.proofs.halving.end_of_runs.Goals as goal

pub returns-then-count-eq0 : goal.returns-then-count-eq0
returns-then-count-eq0 g c =
    let runs : List Run = (g.H.Head.head c.args.head.now).runs in
    let le : length runs ≤ 0 = omega arith in
    sym (end_none runs le)

pub returns : goal.returns
returns g c =
    let runs : List Run = (g.H.Head.head c.args.head.now).runs in
    let lt : 0 < length runs = omega arith in
    end_read runs c.run_count-count.result c.run.result lt c.run_count-count.ensures c.run.ensures
