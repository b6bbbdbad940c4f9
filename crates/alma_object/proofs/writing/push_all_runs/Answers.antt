use Rattle.std.proofs.Common.{◌++◌, length, ap, sym, ◌∙◌, arith}
use Rattle.std.specs.List.{flat_map}
use Rattle.std.proofs.lemmas.List.{take_all}
use Rattle.alma_code.specs.Plain.{PlainRoutine, routine_of}
use Rattle.alma_object_format.specs.Object.{run_bytes}
use Rattle.alma_object.proofs.Encoding.{flat_map-map}
use Rattle.alma_object.proofs.writing.push_all_runs.Goals as goal

pub returns : goal.returns
returns c =
    let rows = c.args.code.now.routines.items in
    let all = take_all c.loop-routine.routine-index rows (omega (arith, ap length c.deref-routine-items.ensures.value)) in
    c.loop-routine.invariant ∙ ap (λ xs. c.args.out.now.items ++ flat_map run_bytes (flat_map (λ r. r.kinds.items) xs)) all
    ∙ ap (λ xs. c.args.out.now.items ++ flat_map run_bytes xs) (sym (flat_map-map (λ (r : PlainRoutine). r.head.runs) routine_of rows))
