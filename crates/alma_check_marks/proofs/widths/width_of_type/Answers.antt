use Rattle.std.proofs.Common.{ap}
use Rattle.alma_check_marks.proofs.Steps.{started}
use Rattle.alma_check_marks.proofs.widths.width_of_type.Goals as goal

pub returns : goal.returns
returns c = ap (λ m. m.end) (started c.marks_from-marks.ensures c.in_ok-mark_type.ensures)
