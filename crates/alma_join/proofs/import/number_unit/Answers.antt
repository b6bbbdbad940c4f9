use Rattle.std.proofs.Common.{◌<◌, ◌≤◌, ◌++◌, ◌∷◌, [], ◌∙◌, ap, refl, arith, length}
use Rattle.alma_join.proofs.Marks.{bare_by, routine_there, within_program, past_program}
use Rattle.alma_join.proofs.Numbering.{numbered_none, numbered_more, fault_more, handed_on, next_all, sound_all, numbers_all}
use Rattle.alma_join.proofs.import.number_unit.Goals as goal

pub loop-r-init : goal.loop-r-init
loop-r-init c = numbered_none _ _ _ _ _ (c.in_ok-push.ensures.items ∙ ap (λ l. l ++ 0 ∷ []) c.new-table.ensures.items)

pub loop-r-preserved : goal.loop-r-preserved
loop-r-preserved c =
    let p = c.args.program.now in
    let within : c.loop-r.r < length c.args.program.now.routines.items = omega
    (arith, c.loop-r-test.true, c.len-r-end.ensures, c.args.program.now.routines.ok) in
    numbered_more _ _ _ _ _ c.loop-r.next _ _ _ (within_program p _ within) c.loop-r.auto.r c.loop-r.invariant c.in_ok-push-2.ensures.items
    c.index.result.now _ _ (bare_by p _ _ _ _ within c.in_ok-bare.ensures c.index.ensures refl)
    (routine_there p c.loop-r.r _ within c.index-routine.ensures)
    c.in_ok-number_routine.ensures.bare c.in_ok-number_routine.ensures.same c.in_ok-number_routine.ensures.kept

pub returns-in_err-number_routine-clause-fault : goal.returns-in_err-number_routine-clause-fault
returns-in_err-number_routine-clause-fault c = λ all holds.
    let p = c.args.program.now in
    let within : c.loop-r.r < length c.args.program.now.routines.items = omega
    (arith, c.loop-r-test.true, c.len-r-end.ensures, c.args.program.now.routines.ok) in
    handed_on _ _ _ c.from_residual-in_err-number_routine.ensures.1
    (fault_more _ _ _ _ _ c.loop-r.next _ _ 0 (within_program p _ within) c.loop-r.auto.r c.loop-r.invariant refl
    c.index.result.now _ _ all (bare_by p _ _ _ _ within c.in_ok-bare.ensures c.index.ensures refl)
    (routine_there p c.loop-r.r _ within c.index-routine.ensures) holds
    c.in_err-number_routine.ensures.bare c.in_err-number_routine.ensures.memory)

pub returns-clause-numbers : goal.returns-clause-numbers
returns-clause-numbers c =
    let past : length c.args.program.now.routines.items ≤ c.loop-r.r = omega
    (arith, c.loop-r-test.false, c.len-r-end.ensures, c.args.program.now.routines.ok) in
    numbers_all _ _ _ _ _ c.loop-r.next _ (past_program c.args.program.now _ past) c.loop-r.auto.r c.loop-r.invariant

pub returns-clause-sound : goal.returns-clause-sound
returns-clause-sound c =
    let past : length c.args.program.now.routines.items ≤ c.loop-r.r = omega
    (arith, c.loop-r-test.false, c.len-r-end.ensures, c.args.program.now.routines.ok) in
    sound_all _ _ _ _ _ c.loop-r.next _ (past_program c.args.program.now _ past) c.loop-r.auto.r c.loop-r.invariant

pub returns-clause-next : goal.returns-clause-next
returns-clause-next c =
    let past : length c.args.program.now.routines.items ≤ c.loop-r.r = omega
    (arith, c.loop-r-test.false, c.len-r-end.ensures, c.args.program.now.routines.ok) in
    next_all _ _ _ _ _ c.loop-r.next _ (past_program c.args.program.now _ past) c.loop-r.auto.r c.loop-r.invariant
