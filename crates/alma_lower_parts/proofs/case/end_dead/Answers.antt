use Rattle.alma_lower_work.proofs.Joins.{on_ok_map}
use Rattle.alma_lower_parts.proofs.case.end_dead.Goals as goal

pub returns-clause-ends : goal.returns-clause-ends
returns-clause-ends c =
    on_ok_map c.aim_behind.result (λ h. record {
      b = _;
      code = c.go_to.ensures.code;
      kinds = c.go_to.ensures.kinds;
      next = c.go_to.ensures.next;
      lines = c.go_to.ensures.lines;
      whole = c.go_to.ensures.whole;
      aims = h;
    }) c.aim_behind.ensures
