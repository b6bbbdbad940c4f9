use Rattle.alma_lower_work.specs.Front.{around}
use Rattle.alma_lower_work.proofs.Joins.{on_ok_map}
use Rattle.alma_lower_parts.proofs.CallForms.{straight_number, checked_number}
use Rattle.alma_lower_parts.proofs.form.put_number.Goals as goal

pub returns-then-is_straight : goal.returns-then-is_straight
returns-then-is_straight c = straight_number (around c.args.scene.now) c.args.line _ _ _ _ _ _ c.if-is_straight.ensures c.redirect.ensures

pub returns : goal.returns
returns c = on_ok_map c.add.result
    (λ h. checked_number (around c.args.scene.now) c.args.line _ _ _ _ _ _ _ c.if-is_straight.ensures c.in_ok-put_fit.ensures h)
    c.add.ensures
