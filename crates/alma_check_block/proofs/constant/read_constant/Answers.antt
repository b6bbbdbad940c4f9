use Rattle.alma_rules.specs.View.{view_expr}
use Rattle.alma_check_rules.specs.Views.{scene_of, somewhere}
use Rattle.alma_check_block.proofs.Constants.{constant_stops}
use Rattle.alma_check_block.proofs.constant.read_constant.Goals as goal

pub returns-in-Err-Fault : goal.returns-in-Err-Fault
returns-in-Err-Fault c = constant_stops (scene_of c.env.result.now somewhere) c.args.reader.now (view_expr c.args.expr.now) _ c.env.ensures
    (rw c.in-Err-Fault.field-0-is at c.in-Err-Fault.ensures)
