use Rattle.alma_rules.specs.View as numbered
use Rattle.alma_resolved.proofs.FramesKept.{program_keeps_frames}
use Rattle.alma_resolved.proofs.GlobalsKept.{program_has_globals}
use Rattle.alma_resolved.proofs.Standing.{numbered_stands}
use Rattle.alma_resolved.proofs.Programs.{program_fits}
use Rattle.alma_resolved.proofs.ConditionsMet.{fits_checked}
use Rattle.alma_resolved.proofs.Lined.{program_lines}
use Rattle.alma_resolved.proofs.TreeNames.{tree_named}
use Rattle.alma_resolved.proofs.conditions.a_resolved_program_is_checked.Goals as goal

pub returns : goal.returns
returns c = λ source tokens m p t e limits routine_limits.
    let stand = numbered_stands m _ t.numbered in
    let x = numbered.view_module m in
    fits_checked p (program_keeps_frames source tokens x p stand e) (program_has_globals source tokens x p stand e)
    (program_fits source tokens x p stand e)
    (program_lines source tokens x p (program_keeps_frames source tokens x p stand e) e) (tree_named source tokens m p t e) limits
    routine_limits
