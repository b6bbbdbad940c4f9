use Rattle.std.proofs.Common.{◌∙◌, ap}
use Rattle.alma_code.specs.declared.instr.Instr.TheVariants as I
use Rattle.alma_lower_templates.specs.Tables.{range_number}
use Rattle.alma_lower_work.specs.Front.{around}
use Rattle.alma_lower_parts.proofs.Putting.{codes_is}
use Rattle.alma_lower_work.proofs.Joins.{on_ok_map}
use Rattle.alma_lower_parts.proofs.form.put_unify.Goals as goal

pub returns : goal.returns
returns c =
    let one = c.args.one in
    let other = c.args.other in
    on_ok_map c.add.result (codes_is _ _ c.args.line _ _
    (ap (λ n. I.Unify one.0 n other.0 c.in_ok-right_range.right_range) c.in_ok-left_range.ensures
    ∙ ap (I.Unify one.0 (range_number (around c.args.scene.now).tables one.1) other.0) c.in_ok-right_range.ensures)) c.add.ensures
