use Rattle.std.proofs.Common.{◌+◌, ◌≤◌, ◌<◌, sym, arith, length, subst}
use Rattle.alma_copy.specs.Numbers.{moves_of}
use Rattle.alma_ir.specs.View.{program_of}
use Rattle.alma_join.proofs.Marks.{bare_by, routine_there, within_program, past_program}
use Rattle.alma_join.proofs.Copies.{ProceduresCopied, copied_none, copied_bare, copied_kept, copied_all}
use Rattle.alma_join.proofs.part.add_procedures.Goals as goal
use Rattle.alma_join.proofs.part.add_procedures.Goals.{then-not-index+in_ok-copy_routine+in_ok-push, else-not-index}

pub loop-r-init : goal.loop-r-init
loop-r-init c = copied_none _ _ _

pub loop-r-preserved : goal.loop-r-preserved
loop-r-preserved c =
    let p = c.args.program.now in
    let m = moves_of c.args.moves.now in
    let within : c.loop-r.r < length c.args.program.now.routines.items = omega
    (arith, c.loop-r-test.true, c.len-r-end.ensures, c.args.program.now.routines.ok) in
    elim c.if-not-index.branch [
      | then-not-index+in_ok-copy_routine+in_ok-push w ↦ subst
          (λ v. ProceduresCopied m (program_of p) c.args.procedures.now.items v.items (c.loop-r.r + 1)) (sym w.procedures-is)
          (copied_kept m _ _ c.loop-r.procedures.items _ _ _ _ (within_program p _ within)
          (bare_by p _ _ _ _ within c.in_ok-bare.ensures c.index.ensures w.if-not-index.true)
          (routine_there p c.loop-r.r w.index-then-not-index.result.now within w.index-then-not-index.ensures) c.loop-r.invariant
          w.in_ok-push.ensures.items w.in_ok-copy_routine.ensures.copy)
      | else-not-index w ↦ subst (λ v. ProceduresCopied m (program_of p) c.args.procedures.now.items v.items (c.loop-r.r + 1))
          (sym w.procedures-is)
          (copied_bare m _ _ c.loop-r.procedures.items _ (within_program p _ within)
          (bare_by p _ _ _ _ within c.in_ok-bare.ensures c.index.ensures w.if-not-index.false) c.loop-r.invariant)
    ]

pub returns : goal.returns
returns c =
    let past : length c.args.program.now.routines.items ≤ c.loop-r.r = omega
    (arith, c.loop-r-test.false, c.len-r-end.ensures, c.args.program.now.routines.ok) in
    copied_all (moves_of c.args.moves.now) _ _ _ _ (past_program c.args.program.now _ past) c.loop-r.invariant
