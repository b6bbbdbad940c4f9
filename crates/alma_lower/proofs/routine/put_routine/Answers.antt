use Rattle.std.proofs.Common.{◌∙◌, ◌++◌, ◌<◌, ap, length, arith}
use Rattle.std.proofs.lemmas.List.{length-map}
use Rattle.std.specs.Prelude.{map}
use Rattle.alma_ir.specs.View.{routine_of}
use Rattle.alma_lower_work.specs.Front.{around, front}
use Rattle.alma_lower.proofs.Making.{puts_at, routine_there, routine_put, routine_slots}
use Rattle.alma_lower.proofs.routine.put_routine.Goals as goal

pub returns-clause-code : goal.returns-clause-code
unfolding around front
returns-clause-code c =
    let s = c.args.scene.now in
    let there : s.routine < length (map routine_of s.program.now.routines.items) = c.requires.exists in
    let lt : s.routine < length s.program.now.routines.items = omega (arith, there, length-map s.program.now.routines.items routine_of) in
    let is = routine_there s.program.now.routines.items s.routine c.index-routine.result.now lt c.index-routine.ensures in
    routine_put (around s) (routine_of c.index-routine.result.now) is (front c.args.work.now) _ _ _ _
    (omega (arith, c.len.ensures, c.in_ok-kinds.kinds.ok.0, ap length c.in_ok-kinds.ensures)) c.in_ok-begin.ensures
    (puts_at _ _ _ _ _ c.deref.ensures.value c.in_ok-emit_stmts.ensures.puts) c.in_ok-put_end.ensures

pub returns-clause-kinds : goal.returns-clause-kinds
unfolding around front
returns-clause-kinds c =
    let s = c.args.scene.now in
    let there : s.routine < length (map routine_of s.program.now.routines.items) = c.requires.exists in
    let lt : s.routine < length s.program.now.routines.items = omega (arith, there, length-map s.program.now.routines.items routine_of) in
    let is = routine_there s.program.now.routines.items s.routine c.index-routine.result.now lt c.index-routine.ensures in
    routine_slots (around s) (routine_of c.index-routine.result.now) is (front c.args.work.now) _ _ _ _
    (omega (arith, c.len.ensures, c.in_ok-kinds.kinds.ok.0, ap length c.in_ok-kinds.ensures)) c.in_ok-begin.ensures
    (puts_at _ _ _ _ _ c.deref.ensures.value c.in_ok-emit_stmts.ensures.puts) c.in_ok-put_end.ensures _ _ c.in_ok-kinds.ensures
    (c.in_ok-extend_from_slice.ensures.items ∙ ap (λ l. c.in_ok-kinds.kinds.items ++ l) c.deref-2.ensures.value)

pub index-routine-requires : goal.index-routine-requires
unfolding around
index-routine-requires c =
    let s = c.args.scene.now in
    let there : s.routine < length (map routine_of s.program.now.routines.items) = c.requires.exists in
    omega (arith, there, length-map s.program.now.routines.items routine_of)
