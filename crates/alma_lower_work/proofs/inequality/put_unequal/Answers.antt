use Rattle.std.proofs.Common.{[], ◌∷◌, ap}
use Rattle.alma_code.specs.declared.instr.Instr.TheVariants as I
use Rattle.alma_lower_templates.specs.LineInstr.{own}
use Rattle.alma_lower_work.proofs.Joins.{codes_as, on_ok_map, then_code}
use Rattle.alma_lower_work.proofs.inequality.put_unequal.Goals as goal

pub returns : goal.returns
returns c =
    on_ok_map c.then_add.result (codes_as _ _ _ _
    (ap (λ at. own c.args.line (I.Equal c.args.first.to c.args.first.from c.args.other ∷ I.JumpZero c.args.first.to at ∷ I.Fail ∷ []))
    c.in_ok-behind.ensures))
    (then_code _ c.then_add.result _ _ _ _ _ c.then_add.ensures.done
    (then_code _ c.then_add-over.result _ _ _ _ _ c.then_add-over.ensures.done c.add-equal.ensures c.then_add-over.ensures.codes)
    c.then_add.ensures.codes)
