use Rattle.std.proofs.Common.{arith, ◌∙◌, ap, subst, get_or}
use Rattle.alma_code.specs.declared.instr.Instr.TheVariants as I
use Rattle.alma_code.specs.Plain.{code_of}
use Rattle.alma_lower_slots.specs.Inner.Checks.{IsClear}
use Rattle.alma_lower_slots.specs.Slots.{body_of}
use Rattle.alma_lower_slots.proofs.CheckSteps.{from_more, bodies_clear}
use Rattle.alma_lower_slots.proofs.marks.are_clear.Goals as goal

pub loop-at-preserved : goal.loop-at-preserved
loop-at-preserved c =
    from_more (λ at. IsClear c.args.marks.now (body_of (get_or (code_of c.args.code.now).instrs at I.Fail)))
    c.start_of-start.result c.loop-at.at c.loop-at.invariant
    (subst (λ o. IsClear c.args.marks.now o) (c.body_of.ensures ∙ ap body_of c.instr_at.ensures)
    (c.is_clear.ensures c.if-not-is_clear.false))

pub returns : goal.returns
returns c = λ yes.
    bodies_clear (code_of c.args.code.now) c.args.routine c.start_of-start.result c.end_of-end.result c.args.marks.now c.requires
    c.start_of-start.ensures c.end_of-end.ensures
    (λ at low high. c.loop-at.invariant at low (omega (arith, c.loop-at-test.false, high)))
