use Rattle.alma_lower_work.proofs.Joins.{on_ok_map}
use Rattle.alma_lower_parts.proofs.LimitForms.{front_put}
use Rattle.alma_lower_parts.proofs.loops.begin_some.Goals as goal

pub returns : goal.returns
returns c =
    let bounds = c.args.bounds in
    on_ok_map c.put_next.result
    (front_put _ _ _ _ _ c.args.line bounds.constant bounds.counter bounds.limit bounds.step bounds.first _ c.in_ok-more.ensures.takes
    c.in_ok-more.ensures.slot c.in_ok-put_bounds.ensures c.in_ok-put_entry.ensures) c.put_next.ensures
