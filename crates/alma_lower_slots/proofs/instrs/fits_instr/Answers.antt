use Rattle.std.proofs.Common.{◌∙◌, sym, get_or}
use Rattle.alma_code.specs.declared.instr.Instr.TheVariants as I
use Rattle.alma_code.specs.Plain.{code_of}
use Rattle.alma_lower_slots.proofs.CheckSteps.{instr_fits}
use Rattle.alma_lower_slots.proofs.instrs.fits_instr.Goals as goal

pub returns : goal.returns
returns c = λ together.
    instr_fits (code_of c.args.code.now) c.args.own.now c.args.kinds.now c.args.stretches.now c.args.routine c.args.at
    c.instr_at-instr.result (get_or (code_of c.args.code.now).instrs c.args.at I.Fail) c.instr_at-instr.ensures
    (sym c.reads_matter.ensures ∙ c.if-not-reads_matter.false) (c.write_fits.ensures c.if-not-write_fits.false)
    (c.fits_flow.ensures c.if-not-fits_flow.false) (sym c.names_own.ensures ∙ c.if-not-names_own.false)
    (sym c.begins_own.ensures ∙ c.if-not-begins_own.false) (c.stay_together.ensures together)
