use Rattle.alma_check_marks.proofs.Steps.{started}
use Rattle.alma_check_marks.proofs.widths.mark_body_at.Goals as goal

pub returns : goal.returns
returns c = started c.marks_from-marks.ensures c.in_ok-mark_stmts.ensures
