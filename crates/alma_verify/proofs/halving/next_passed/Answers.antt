use Rattle.std.proofs.Common.{arith, ◌+◌, ◌<◌, ◌≤◌, List, length, get_or, ap}
use Rattle.alma_code.specs.declared.head.Run.{Run}
use Rattle.alma_verify.specs.Runs.{no_run}
use Rattle.alma_verify.proofs.SlotRuns.{read_is, passes_past, passes_same, passes_more}
use Rattle.alma_verify.proofs.halving.next_passed.Goals as goal

pub returns-then-passed-count : goal.returns-then-passed-count
returns-then-passed-count g c =
    let runs : List Run = (g.H.Head.head c.args.head.now).runs in
    let past : length runs ≤ c.args.passed = omega arith in
    passes_past runs (c.args.first + c.args.k) (c.args.first + (c.args.k + 1)) c.args.passed c.requires.passes past (omega arith)

pub returns-then-next-end : goal.returns-then-next-end
returns-then-next-end g c =
    let runs : List Run = (g.H.Head.head c.args.head.now).runs in
    let e = ap (λ (r : Run). r.end) (read_is runs c.args.passed c.run.result c.run.ensures) in
    passes_same runs (c.args.first + c.args.k) (c.args.first + (c.args.k + 1)) c.args.passed c.requires.passes (omega arith)
    (omega (arith, e))

pub returns : goal.returns
returns g c =
    let runs : List Run = (g.H.Head.head c.args.head.now).runs in
    let e = ap (λ (r : Run). r.end) (read_is runs c.args.passed c.run.result c.run.ensures) in
    let lt : c.args.passed < length runs = omega arith in
    let under : c.args.first + c.args.k < (get_or runs c.args.passed no_run).end = c.requires.passes.behind lt in
    passes_more runs (c.args.first + (c.args.k + 1)) c.args.passed (c.args.passed + 1) c.requires.rise lt (omega (arith, e, under))
    (omega arith)
