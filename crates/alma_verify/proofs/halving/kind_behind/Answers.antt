use Rattle.std.proofs.Common.{arith, ◌<◌, ◌≤◌, List, length, sym}
use Rattle.alma_code.specs.declared.head.Run.{Run}
use Rattle.alma_verify.proofs.SlotRuns.{none_passed, kind_read}
use Rattle.alma_verify.proofs.halving.kind_behind.Goals as goal

pub returns-then-passed-count : goal.returns-then-passed-count
returns-then-passed-count g c slot passes =
    let runs : List Run = (g.H.Head.head c.args.head.now).runs in
    let le : length runs ≤ c.args.passed = omega arith in
    sym (none_passed runs slot c.args.passed c.requires.rise le passes)

pub returns : goal.returns
returns g c slot passes =
    let runs : List Run = (g.H.Head.head c.args.head.now).runs in
    let lt : c.args.passed < length runs = omega arith in
    kind_read runs slot c.args.passed c.run.result c.requires.rise lt c.run.ensures passes
