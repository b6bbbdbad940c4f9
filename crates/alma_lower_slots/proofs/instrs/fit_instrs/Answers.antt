use Rattle.std.proofs.Common.{get_or}
use Rattle.alma_code.specs.declared.instr.Instr.TheVariants as I
use Rattle.alma_code.specs.Plain.{code_of}
use Rattle.alma_lower_slots.specs.Inner.Checks.{FitsInstr}
use Rattle.alma_lower_slots.proofs.CheckSteps.{from_more}
use Rattle.alma_lower_slots.proofs.instrs.fit_instrs.Goals as goal

pub loop-at-preserved : goal.loop-at-preserved
loop-at-preserved c =
    from_more (λ at. FitsInstr (code_of c.args.code.now) c.args.own.now c.args.kinds.now c.args.stretches.now c.args.routine at
    (get_or (code_of c.args.code.now).instrs at I.Fail)) c.start_of-start.result c.loop-at.at c.loop-at.invariant
    (c.fits_instr.ensures c.if-not-fits_instr.false)
