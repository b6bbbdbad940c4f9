use Rattle.std.proofs.Common.{[], ◌∷◌, ap}
use Rattle.std.specs.Prelude.{pos}
use Rattle.alma_code.specs.declared.instr.Instr.TheVariants as I
use Rattle.alma_lower_templates.specs.LineInstr.{own}
use Rattle.alma_lower_work.proofs.Joins.{codes_as, on_ok_map, then_code}
use Rattle.alma_lower_work.proofs.value.put_truth.Goals as goal

pub returns : goal.returns
returns c =
    on_ok_map c.then_add.result (codes_as _ _ _ _
    (ap (λ at. own c.args.line (I.Const c.args.to (pos 1) ∷ I.Jump at ∷ I.Const c.args.to (pos 0) ∷ []))
    c.in_ok-behind.ensures))
    (then_code _ c.then_add.result _ _ _ _ _ c.then_add.ensures.done
    (then_code _ c.then_add-past.result _ _ _ _ _ c.then_add-past.ensures.done c.add-yes.ensures c.then_add-past.ensures.codes)
    c.then_add.ensures.codes)
