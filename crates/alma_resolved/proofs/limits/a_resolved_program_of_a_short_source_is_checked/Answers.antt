use Rattle.alma_rules.specs.View as numbered
use Rattle.alma_resolved.proofs.FramesKept.{program_keeps_frames}
use Rattle.alma_resolved.proofs.GlobalsKept.{program_has_globals}
use Rattle.alma_resolved.proofs.Standing.{numbered_stands}
use Rattle.alma_resolved.proofs.Programs.{program_fits}
use Rattle.alma_resolved.proofs.ConditionsMet.{fits_checked}
use Rattle.alma_resolved.proofs.Lined.{program_lines}
use Rattle.alma_resolved.proofs.TreeNames.{tree_named}
use Rattle.alma_resolved.proofs.Routines.{program_keeps_limits, program_keeps_slots}
use Rattle.alma_resolved.proofs.limits.a_resolved_program_of_a_short_source_is_checked.Goals as goal

pub returns : goal.returns
returns c = λ source tokens m p short t e.
    let stand = numbered_stands m _ t.numbered in
    let x = numbered.view_module m in
    let frames = program_keeps_frames source tokens x p stand e in
    let fits = program_fits source tokens x p stand e in
    fits_checked p frames (program_has_globals source tokens x p stand e) fits (program_lines source tokens x p frames e)
    (tree_named source tokens m p t e) (program_keeps_limits source tokens m p short t e)
    (program_keeps_slots source tokens m p short t e fits)
