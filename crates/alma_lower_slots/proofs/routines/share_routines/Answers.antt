use Rattle.std.proofs.Common.{◌<◌, ◌∙◌, length, map, arith}
use Rattle.std.proofs.lemmas.List.{length-map}
use Rattle.alma_code.specs.Plain.{code_of, routine_of}
use Rattle.alma_lower_slots.proofs.InMemory.{kinds_read}
use Rattle.alma_lower_slots.proofs.SoFar.{so_far_more}
use Rattle.alma_lower_slots.proofs.routines.share_routines.Goals as goal

pub add_routine-requires-clause-kinds : goal.add_routine-requires-clause-kinds
add_routine-requires-clause-kinds c =
    let items = c.args.code.now.routines.items in
    let lt : c.loop-routine.routine < length (map routine_of items) =
    omega (arith, c.loop-routine-test.true, c.len-routine-end.ensures, c.args.code.now.routines.ok.0, length-map items routine_of) in
    c.deref.ensures.value
    ∙ kinds_read c.args.code.now c.args.kinds.now c.loop-routine.routine c.index-kinds-routine.result c.requires.kinds lt
    c.index-kinds-routine.is

pub loop-routine-preserved : goal.loop-routine-preserved
loop-routine-preserved c =
    let items = c.args.code.now.routines.items in
    let lt : c.loop-routine.routine < length (map routine_of items) =
    omega (arith, c.loop-routine-test.true, c.len-routine-end.ensures, c.args.code.now.routines.ok.0, length-map items routine_of) in
    so_far_more (code_of c.args.code.now) c.args.own.now c.loop-routine.routine _ _ _ _ c.requires.sound.table lt c.loop-routine.invariant
    (c.in_ok-add_routine.ensures c.if-not-branch.false)
