use Rattle.alma_rules.specs.View as numbered
use Rattle.alma_resolved.proofs.Standing.{numbered_stands}
use Rattle.alma_resolved.proofs.Programs.{program_fits}
use Rattle.alma_resolved.proofs.Routines.{program_keeps_slots}
use Rattle.alma_resolved.proofs.limits.resolved_programs_keep_their_slots.Goals as goal

pub returns : goal.returns
returns c = λ source tokens m p short t e.
    program_keeps_slots source tokens m p short t e
    (program_fits source tokens (numbered.view_module m) p (numbered_stands m _ t.numbered) e)
