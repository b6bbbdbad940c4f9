use Rattle.std.proofs.Common.{drop}
use Rattle.alma_ir.specs.View.{branches_list}
use Rattle.alma_lower_work.specs.Front.{Front, around, front}
use Rattle.alma_lower_work.specs.Puts.{PutsBranches}
use Rattle.alma_lower_emit.proofs.choice.emit_branches.Given as goal

abbrev pub invariant-loop-i : goal.invariant-loop-i
invariant-loop-i g l =
    (c : Front) → PutsBranches (around l.scene) l.line l.exit (front l.work) c (branches_list (drop l.i l.branches))
    → PutsBranches (around l.scene) l.line l.exit (front l.fn.work) c (branches_list (drop 1 l.branches))
