use Rattle.std.proofs.Common.{arith, ◌<◌, List, length}
use Rattle.alma_code.specs.declared.head.Run.{Run}
use Rattle.alma_code.specs.Plain.{head_at}
use Rattle.alma_verify.proofs.Starts.{last_some}
use Rattle.alma_verify.proofs.heads.end_of_runs.Goals as goal

pub returns-else-count-eq0 : goal.returns-else-count-eq0
returns-else-count-eq0 g c =
    let runs : List Run = (head_at (g.R.CodeReader.code c.args.reader.now) c.args.routine).runs in
    let lt : 0 < length runs = omega arith in
    last_some 0 runs c.run_count-count.result c.run.result lt c.run_count-count.ensures c.run.ensures
