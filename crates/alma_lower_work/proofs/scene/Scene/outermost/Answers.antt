use Rattle.std.proofs.Common.{refl}
use Rattle.alma_lower_work.specs.Front.{around}
use Rattle.alma_lower_work.proofs.DesigForms.{outer_step}
use Rattle.alma_lower_work.proofs.scene.Scene.outermost.Goals as goal

pub loop-init : goal.loop-init
unfolding around
loop-init c = refl

pub loop-preserved : goal.loop-preserved
loop-preserved c = outer_step (around c.args.self.now) 0 c.loop.counter c.loop.routine c.outer-routine.result c.loop.invariant
    c.outer-routine.ensures
