use Rattle.std.proofs.Common.{◌+◌, ◌≤◌, ◌<◌, sym, arith, length, subst}
use Rattle.alma_ir.specs.View.{program_of}
use Rattle.alma_join.proofs.Marks.{bare_by, routine_there, within_program, past_program}
use Rattle.alma_join.proofs.Going.{UnitGoes, goes_none, goes_bare, goes_kept, goes_all}
use Rattle.alma_join.proofs.directory.add_unit.Goals as goal
use Rattle.alma_join.proofs.directory.add_unit.Goals.{then-not-index+in_ok-add_routine, else-not-index}

pub loop-r-init : goal.loop-r-init
loop-r-init c = goes_none _ _ _

pub loop-r-preserved : goal.loop-r-preserved
loop-r-preserved c =
    let p = c.args.program.now in
    let within : c.loop-r.r < length c.args.program.now.routines.items = omega
    (arith, c.loop-r-test.true, c.len-r-end.ensures, c.args.program.now.routines.ok) in
    elim c.if-not-index.branch [
      | then-not-index+in_ok-add_routine w ↦ subst (λ d. UnitGoes c.args.directory.now d c.args.unit (program_of p) (c.loop-r.r + 1))
          (sym w.directory-is)
          (goes_kept _ c.loop-r.directory _ c.args.unit _ _ _ (within_program p _ within)
          (bare_by p _ _ _ _ within c.in_ok-bare.ensures c.index.ensures w.if-not-index.true)
          (routine_there p c.loop-r.r w.index-then-not-index.result.now within w.index-then-not-index.ensures) c.loop-r.invariant
          w.in_ok-add_routine.ensures)
      | else-not-index w ↦ subst (λ d. UnitGoes c.args.directory.now d c.args.unit (program_of p) (c.loop-r.r + 1)) (sym w.directory-is)
          (goes_bare _ c.loop-r.directory c.args.unit _ _ (within_program p _ within)
          (bare_by p _ _ _ _ within c.in_ok-bare.ensures c.index.ensures w.if-not-index.false) c.loop-r.invariant)
    ]

pub returns : goal.returns
returns c =
    let past : length c.args.program.now.routines.items ≤ c.loop-r.r = omega
    (arith, c.loop-r-test.false, c.len-r-end.ensures, c.args.program.now.routines.ok) in
    goes_all _ _ _ _ _ (past_program c.args.program.now _ past) c.loop-r.invariant
