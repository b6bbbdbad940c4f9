use Rattle.std.proofs.Common.{rules, ◌≡◌, length, arith}
use Rattle.alma_code.specs.Plain.{code_of}
use Rattle.alma_object_format.specs.Object.{routine_bytes}
use Rattle.alma_object.proofs.Encoding.{routine_step, routine_written, section_next}
use Rattle.alma_object.proofs.writing.push_routines.Goals as goal

pub overflow_cast-name_end : goal.overflow_cast-name_end
overflow_cast-name_end c =
    let step = routine_step c.args.code.now c.deref-routine-items.result.now c.loop-routine.routine-index c.routine-item.result
    c.deref-routine-items.ensures.value c.loop-routine-test.true c.routine-item.is in
    let n : c.len.result ≡ length c.routine-item.result.name.items = search rules in
    omega (arith, step.names, step.names_within, c.requires.names)

pub overflow_add-name_end : goal.overflow_add-name_end
overflow_add-name_end c =
    let step = routine_step c.args.code.now c.deref-routine-items.result.now c.loop-routine.routine-index c.routine-item.result
    c.deref-routine-items.ensures.value c.loop-routine-test.true c.routine-item.is in
    let n : c.len.result ≡ length c.routine-item.result.name.items = search rules in
    omega (arith, step.names, step.names_within, c.requires.names, c.loop-routine.invariant.names)

pub overflow_add-params_end : goal.overflow_add-params_end
overflow_add-params_end c =
    let step = routine_step c.args.code.now c.deref-routine-items.result.now c.loop-routine.routine-index c.routine-item.result
    c.deref-routine-items.ensures.value c.loop-routine-test.true c.routine-item.is in
    let n : c.len-in-loop-routine.result ≡ length c.routine-item.result.params.items = search rules in
    omega (arith, step.params, step.params_within, c.requires.params, c.loop-routine.invariant.params)

pub overflow_add-runs_end : goal.overflow_add-runs_end
overflow_add-runs_end c =
    let step = routine_step c.args.code.now c.deref-routine-items.result.now c.loop-routine.routine-index c.routine-item.result
    c.deref-routine-items.ensures.value c.loop-routine-test.true c.routine-item.is in
    let n : c.len-in-loop-routine-2.result ≡ length c.routine-item.result.kinds.items = search rules in
    omega (arith, step.runs, step.runs_within, c.requires.runs, c.loop-routine.invariant.runs)

pub loop-routine-preserved : goal.loop-routine-preserved
loop-routine-preserved c =
    let step = routine_step c.args.code.now c.deref-routine-items.result.now c.loop-routine.routine-index c.routine-item.result
    c.deref-routine-items.ensures.value c.loop-routine-test.true c.routine-item.is in
    let n : c.len.result ≡ length c.routine-item.result.name.items = search rules in
    let p : c.len-in-loop-routine.result ≡ length c.routine-item.result.params.items = search rules in
    let r : c.len-in-loop-routine-2.result ≡ length c.routine-item.result.kinds.items = search rules in
    let next = routine_written (code_of c.args.code.now) c.loop-routine.routine-index c.routine-item.result step c.loop-routine.name_end
    c.loop-routine.params_end c.loop-routine.runs_end
    c.len.result c.len-in-loop-routine.result c.len-in-loop-routine-2.result c.loop-routine.invariant.names c.loop-routine.invariant.params
    c.loop-routine.invariant.runs n p r in
    record {
      names = next.names_are;
      params = next.params_are;
      runs = next.runs_are;
      written = section_next (routine_bytes (code_of c.args.code.now)) c.loop-routine.routine-index _ _ _ _ c.loop-routine.invariant.written
          c.in_ok-push_routine.ensures next.bytes;
    }
