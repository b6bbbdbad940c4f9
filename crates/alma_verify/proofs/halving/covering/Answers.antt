use Rattle.std.proofs.Common.{List}
use Rattle.alma_code.specs.declared.head.Run.{Run}
use Rattle.alma_verify.proofs.SlotRuns.{covers_passed}
use Rattle.alma_verify.proofs.halving.covering.Goals as goal

pub returns : goal.returns
returns g c slot passes =
    let runs : List Run = (g.H.Head.head c.args.head.now).runs in
    covers_passed runs slot c.args.passed c.run.result c.requires.rise c.requires.some c.run.ensures passes
