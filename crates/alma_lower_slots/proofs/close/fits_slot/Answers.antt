use Rattle.std.proofs.Common.{arith}
use Rattle.alma_code.specs.Plain.{code_of}
use Rattle.alma_lower_slots.proofs.CheckSteps.{slot_fits}
use Rattle.alma_lower_slots.proofs.close.fits_slot.Goals as goal

pub returns : goal.returns
returns c = λ calm.
    slot_fits (code_of c.args.code.now) c.args.routine c.args.sources.now c.args.kind c.args.slot c.args.stretch
    c.start_of-start.result c.end_of-end.result c.requires c.start_of-start.ensures c.end_of-end.ensures
    (omega arith) (omega arith) (c.writes.ensures c.if-not-writes.false) (c.leads_inside.ensures c.if-not-leads_inside.false)
    (c.is_calm_for.ensures calm)
