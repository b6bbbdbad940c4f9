use Rattle.std.proofs.Common.{subst}
use Rattle.alma_plan.specs.Course.{Goes}
use Rattle.alma_plan.specs.Plan.{prints, IsDue}
use Rattle.alma_plan.specs.Refusals.{end_by, stop_end}
use Rattle.alma_back.specs.Due.{program}
use Rattle.alma_back.specs.Inner.{lines_of}
use Rattle.alma_back.specs.Session.{lines_text}
use Rattle.alma_back.specs.Standing.{Standing}
use Rattle.alma_back.proofs.Plans.{goes_walk}
use Rattle.alma_back.proofs.walk.walk_on.Goals as goal

pub returns : goal.returns
returns g c =
    subst (λ (s : Standing). Goes program (IsDue (prints (lines_text s (lines_of c.args.lines.now)))) (g.O.Sink.side c.args.out.now)
    (g.O.Sink.side c.show_lines.new.out) (end_by (stop_end program) c.show_lines.result)) c.in_ok-back.ensures
    (goes_walk (lines_text c.in_ok-back.back (lines_of c.args.lines.now)) _ _ c.show_lines.result c.show_lines.ensures)
