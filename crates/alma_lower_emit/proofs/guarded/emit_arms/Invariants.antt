use Rattle.std.proofs.Common.{drop}
use Rattle.alma_ir.specs.View.{arms_list}
use Rattle.alma_lower_work.specs.Front.{Front, around, front}
use Rattle.alma_lower_work.specs.Puts.{PutsArms}
use Rattle.alma_lower_emit.proofs.guarded.emit_arms.Given as goal

abbrev pub invariant-loop-i : goal.invariant-loop-i
invariant-loop-i g l =
    (c : Front) → PutsArms (around l.scene) l.line l.exit (front l.work) c (arms_list (drop l.i l.arms))
    → PutsArms (around l.scene) l.line l.exit (front l.fn.work) c (arms_list (drop 1 l.arms))
