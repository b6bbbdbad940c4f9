use Rattle.alma_object.specs.Fields.{FitsInstr}
use Rattle.alma_verify.proofs.Fitting.{all_more, all_done}
use Rattle.alma_verify.proofs.fields.fits_instrs.Goals as goal

pub loop-instr-preserved : goal.loop-instr-preserved
loop-instr-preserved c = all_more FitsInstr c.args.instrs.now c.loop-instr.instr-index _ c.loop-instr-test.true c.loop-instr.invariant
    (record { words = c.fits_form.ensures.words; value = c.fits_form.ensures.value })

pub returns : goal.returns
returns c = all_done FitsInstr c.args.instrs.now c.loop-instr.instr-index c.loop-instr-test.false c.loop-instr.invariant
