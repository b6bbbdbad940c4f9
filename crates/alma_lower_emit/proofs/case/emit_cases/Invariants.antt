use Rattle.std.proofs.Common.{◌≡◌, ◌+◌, drop}
use Rattle.alma_ir.specs.View.{cases_list}
use Rattle.alma_lower_work.specs.Front.{Front, around, front}
use Rattle.alma_lower_work.specs.Puts.{PutsCases}
use Rattle.alma_lower_emit.proofs.case.emit_cases.Given as goal

abbrev pub invariant-loop-arm : goal.invariant-loop-arm
invariant-loop-arm g l =
    l.labels.test ≡ l.labels.bound + 1 → (c : Front)
    → PutsCases (around l.scene) l.line l.labels.value l.labels.bound l.exit (front l.work) c (cases_list (drop l.arm-index l.arms))
    → PutsCases (around l.scene) l.line l.labels.value l.labels.bound l.exit (front l.fn.work) c (cases_list l.arms)
