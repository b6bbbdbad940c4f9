use Rattle.std.proofs.Common.{rules, ◌≡◌, length, arith}
use Rattle.alma_code.specs.Plain.{code_of}
use Rattle.alma_object.proofs.Encoding.{routine_step, routine_written}
use Rattle.alma_object.proofs.writing.count_totals.Goals as goal

pub overflow_cast-names : goal.overflow_cast-names
overflow_cast-names c =
    let step = routine_step c.args.code.now c.deref-routine-items.result.now c.loop-routine.routine-index c.routine-item.result
    c.deref-routine-items.ensures.value c.loop-routine-test.true c.routine-item.is in
    let n : c.len.result ≡ length c.routine-item.result.name.items = search rules in
    omega (arith, step.names, step.names_within, c.requires.names)

pub overflow_add-names : goal.overflow_add-names
overflow_add-names c =
    let step = routine_step c.args.code.now c.deref-routine-items.result.now c.loop-routine.routine-index c.routine-item.result
    c.deref-routine-items.ensures.value c.loop-routine-test.true c.routine-item.is in
    let n : c.len.result ≡ length c.routine-item.result.name.items = search rules in
    omega (arith, step.names, step.names_within, c.requires.names, c.loop-routine.invariant.names)

pub overflow_add-params : goal.overflow_add-params
overflow_add-params c =
    let step = routine_step c.args.code.now c.deref-routine-items.result.now c.loop-routine.routine-index c.routine-item.result
    c.deref-routine-items.ensures.value c.loop-routine-test.true c.routine-item.is in
    let n : c.len-in-loop-routine.result ≡ length c.routine-item.result.params.items = search rules in
    omega (arith, step.params, step.params_within, c.requires.params, c.loop-routine.invariant.params)

pub overflow_add-runs : goal.overflow_add-runs
overflow_add-runs c =
    let step = routine_step c.args.code.now c.deref-routine-items.result.now c.loop-routine.routine-index c.routine-item.result
    c.deref-routine-items.ensures.value c.loop-routine-test.true c.routine-item.is in
    let n : c.len-in-loop-routine-2.result ≡ length c.routine-item.result.kinds.items = search rules in
    omega (arith, step.runs, step.runs_within, c.requires.runs, c.loop-routine.invariant.runs)

pub loop-routine-preserved : goal.loop-routine-preserved
loop-routine-preserved c =
    let step = routine_step c.args.code.now c.deref-routine-items.result.now c.loop-routine.routine-index c.routine-item.result
    c.deref-routine-items.ensures.value c.loop-routine-test.true c.routine-item.is in
    let n : c.len.result ≡ length c.routine-item.result.name.items = search rules in
    let p : c.len-in-loop-routine.result ≡ length c.routine-item.result.params.items = search rules in
    let r : c.len-in-loop-routine-2.result ≡ length c.routine-item.result.kinds.items = search rules in
    let next = routine_written (code_of c.args.code.now) c.loop-routine.routine-index c.routine-item.result step c.loop-routine.names
    c.loop-routine.params c.loop-routine.runs
    c.len.result c.len-in-loop-routine.result c.len-in-loop-routine-2.result c.loop-routine.invariant.names c.loop-routine.invariant.params
    c.loop-routine.invariant.runs n p r in
    record { names = next.names_are; params = next.params_are; runs = next.runs_are }
