use Rattle.std.proofs.Common.{◌∙◌, sym, arith}
use Rattle.alma_object_format.proofs.Kept.{last_runs, name_ends_fit}
use Rattle.alma_object_format.proofs.walk.sections_fault.Goals as goal

pub ranges_fault-requires : goal.ranges_fault-requires
ranges_fault-requires c =
    let last = last_runs c.args.bytes.now c.args.header.now c.requires.within.some (sym c.routines_fault.ensures.fault ∙ c.in_default.is) in
    omega (arith, last, c.in_default-runs_fault.ensures.whole)

pub pools_fault-requires-clause-ends : goal.pools_fault-requires-clause-ends
pools_fault-requires-clause-ends c =
    name_ends_fit c.args.bytes.now c.args.header.now (sym c.routines_fault.ensures.fault ∙ c.in_default.is)
    (sym c.globals_fault.ensures.fault ∙ c.in_default-globals_fault.is)
