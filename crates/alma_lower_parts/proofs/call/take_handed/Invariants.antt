use Rattle.std.proofs.Common.{take, []}
use Rattle.alma_ir.specs.View.{args_list}
use Rattle.alma_lower_templates.specs.Slots.{handed_slots}
use Rattle.alma_lower_work.specs.Front.{front, Adds}
use Rattle.alma_lower_parts.proofs.call.take_handed.Given as goal

abbrev pub invariant-loop-arg : goal.invariant-loop-arg
invariant-loop-arg l = Adds (front l.fn.work) (front l.work) (λ at lo ls. []) (λ ls. handed_slots (args_list (take l.arg-index l.args)))
    (λ ls. ls)
