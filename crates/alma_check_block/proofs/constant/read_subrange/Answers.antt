use Rattle.alma_rules.specs.View.{view_expr}
use Rattle.alma_check_block.proofs.Constants.{ok_as, sub_by}
use Rattle.alma_check_block.proofs.constant.read_subrange.Goals as goal

pub returns : goal.returns
returns c = ok_as _ _ _ _ (sub_by c.args.reader.now c.args.node (view_expr c.args.low.now) (view_expr c.args.high.now) _ _
    c.in_ok-low.ensures c.in_ok-high.ensures) c.join_subrange.ensures
