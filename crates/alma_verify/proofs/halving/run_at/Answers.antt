use Rattle.std.proofs.Common.{arith, ◌≤◌, List, length}
use Rattle.alma_code.specs.declared.head.Run.{Run}
use Rattle.alma_verify.proofs.SlotRuns.{none_passed}
use Rattle.alma_verify.proofs.halving.run_at.Goals as goal

pub returns-then-passed-count : goal.returns-then-passed-count
returns-then-passed-count g c =
    let runs : List Run = (g.H.Head.head c.args.head.now).runs in
    let le : length runs ≤ c.passed_runs-passed.result = omega arith in
    none_passed runs c.args.slot c.passed_runs-passed.result c.requires.rise le c.passed_runs-passed.ensures

pub returns : goal.returns
returns g c = c.covering.ensures c.args.slot c.passed_runs-passed.ensures
