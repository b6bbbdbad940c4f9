use Rattle.std.proofs.Common.{length, ap, arith}
use Rattle.alma_scan.specs.Comments.{none}
use Rattle.alma_scan.proofs.Gaps.{gap_blanks, gap_comment, gap_shorter, closes_shorter}
use Rattle.alma_scan.proofs.gap.skip_gap.Goals as goal

pub loop-after-init : goal.loop-after-init
loop-after-init c = none _

pub loop-after-smaller : goal.loop-after-smaller
loop-after-smaller c =
    let text = gap_shorter (gap_blanks _ _ _ _ (none c.loop-after.rest.now) c.split_run.ensures.whole c.split_run.ensures.run) in
    let comment = closes_shorter c.in-Some.ensures.2 in
    let opening = ap length c.in-Some.ensures.1 in
    omega (arith, text, comment, opening)

pub loop-after-preserved : goal.loop-after-preserved
loop-after-preserved c =
    gap_comment _ _ _ _ (gap_blanks _ _ _ _ c.loop-after.invariant c.split_run.ensures.whole c.split_run.ensures.run)
    c.in-Some.ensures.1 c.in-Some.ensures.2

pub returns-in-None-clause-gap : goal.returns-in-None-clause-gap
returns-in-None-clause-gap c = gap_blanks _ _ _ _ c.loop-after.invariant c.split_run.ensures.whole c.split_run.ensures.run
