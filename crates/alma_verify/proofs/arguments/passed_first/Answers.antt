use Rattle.std.proofs.Common.{arith, ◌+◌, List}
use Rattle.alma_code.specs.declared.head.Run.{Run}
use Rattle.alma_verify.proofs.SlotRuns.{passes_at}
use Rattle.alma_verify.proofs.arguments.passed_first.Goals as goal

pub returns : goal.returns
returns g c =
    let runs : List Run = (g.H.Head.head c.args.caller.now).runs in
    passes_at runs c.from.result (c.args.first + 0) c.passed_runs.result c.passed_runs.ensures (omega arith)
