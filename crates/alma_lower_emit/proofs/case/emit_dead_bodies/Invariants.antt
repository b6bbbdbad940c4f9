use Rattle.std.proofs.Common.{drop}
use Rattle.alma_ir.specs.View.{cases_list}
use Rattle.alma_lower_work.specs.Front.{Front, around, front}
use Rattle.alma_lower_work.specs.Puts.{PutsDeadBodies}
use Rattle.alma_lower_emit.proofs.case.emit_dead_bodies.Given as goal

abbrev pub invariant-loop-arm : goal.invariant-loop-arm
invariant-loop-arm g l =
    (c : Front) → PutsDeadBodies (around l.scene) (front l.work) c (cases_list (drop l.arm-index l.arms))
    → PutsDeadBodies (around l.scene) (front l.fn.work) c (cases_list l.arms)
