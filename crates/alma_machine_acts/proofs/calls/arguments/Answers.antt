use Rattle.std.proofs.Common.{◌≡◌, ◌<◌, ◌+◌, length, sym, subst, arith}
use Rattle.std.proofs.lemmas.Option.{get_or_from_slice_get}
use Rattle.alma_code.specs.Layout.{no_param}
use Rattle.alma_machine_acts.specs.Calls.{HasArgument}
use Rattle.alma_machine_acts.proofs.Given.{ReadSo, fails_at, reads_more, all_done}
use Rattle.alma_machine_acts.proofs.calls.arguments.Goals as goal

pub returns-in-Err : goal.returns-in-Err
returns-in-Err g c =
    let ps = (g.H.Head.head c.args.head.now).params in
    let lt : c.loop-i.i < length ps = omega (arith, c.loop-i-test.true, c.param_count-i-end.ensures) in
    fails_at (g.M.MachineMemory.picture c.args.memory.now).now ps c.args.first c.loop-i.i c.param.result c.loop-i.args.items
    c.loop-i.args.items c.in-Err.fault lt c.param.ensures c.loop-i.invariant c.in-Err.ensures

pub loop-i-preserved : goal.loop-i-preserved
loop-i-preserved g c =
    let ps = (g.H.Head.head c.args.head.now).params in
    let now = (g.M.MachineMemory.picture c.args.memory.now).now in
    subst (λ xs. ReadSo now ps c.args.first (c.loop-i.i + 1) xs) (sym c.in_ok-push-in-Ok.ensures.items)
    (reads_more now ps c.args.first c.loop-i.i c.param.result c.in-Ok.cell c.loop-i.args.items c.param.ensures c.loop-i.invariant
    c.in-Ok.ensures)

pub returns : goal.returns
returns g c =
    let ps = (g.H.Head.head c.args.head.now).params in
    let now = (g.M.MachineMemory.picture c.args.memory.now).now in
    let all : c.loop-i.i ≡ length ps = omega (arith, c.loop-i-test.false, c.loop-i.auto.i-end, c.param_count-i-end.ensures) in
    all_done now ps c.args.first c.loop-i.args.items (subst (λ n. ReadSo now ps c.args.first n c.loop-i.args.items) all c.loop-i.invariant)

pub argument-requires : goal.argument-requires
argument-requires g c =
    let ps = (g.H.Head.head c.args.head.now).params in
    let now = (g.M.MachineMemory.picture c.args.memory.now).now in
    let lt : c.loop-i.i < length ps = omega (arith, c.loop-i-test.true, c.param_count-i-end.ensures) in
    subst (λ p. HasArgument now p (c.args.first + c.loop-i.i)) (get_or_from_slice_get ps c.loop-i.i c.param.result no_param c.param.ensures)
    (c.requires c.loop-i.i lt)
