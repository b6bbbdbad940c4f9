use Rattle.std.proofs.Common.{◌∙◌, ◌<◌, subst, length, arith}
use Rattle.std.proofs.lemmas.List.{length-map}
use Rattle.std.specs.Prelude.{map}
use Rattle.alma_ir.specs.View.{routine_of}
use Rattle.alma_lower_templates.specs.Runs.{NamesKinds}
use Rattle.alma_lower_work.specs.Front.{around}
use Rattle.alma_lower.proofs.Making.{routine_there, head_as, on_ok_all, if_ok_then}
use Rattle.alma_lower.proofs.routine.lower_routine.Goals as goal

pub returns-clause-code : goal.returns-clause-code
returns-clause-code c = on_ok_all c.head_of.result c.in_ok-kinds.ensures.code

pub returns-clause-names : goal.returns-clause-names
returns-clause-names c = if_ok_then c.head_of.result
    (λ head h. subst (NamesKinds head.kinds.items) (c.deref.ensures.value ∙ c.in_ok-kinds.ensures.kinds) h) c.head_of.ensures.names

pub returns-clause-head : goal.returns-clause-head
unfolding around
returns-clause-head c =
    let s = c.args.scene.now in
    let there : s.routine < length (map routine_of s.program.now.routines.items) = c.requires.exists in
    let lt : s.routine < length s.program.now.routines.items = omega (arith, there, length-map s.program.now.routines.items routine_of) in
    let is = routine_there s.program.now.routines.items s.routine c.index-routine.result.now lt c.index-routine.ensures in
    if_ok_then c.head_of.result (λ head h. head_as _ _ _ _ _ _ _ is (c.deref.ensures.value ∙ c.in_ok-kinds.ensures.kinds)
    c.in_ok-code_end.ensures.address h) c.head_of.ensures.head

pub index-routine-requires : goal.index-routine-requires
unfolding around
index-routine-requires c =
    let s = c.args.scene.now in
    let there : s.routine < length (map routine_of s.program.now.routines.items) = c.requires.exists in
    omega (arith, there, length-map s.program.now.routines.items routine_of)
