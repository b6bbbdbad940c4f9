use Rattle.std.proofs.Common.{[], refl}
use Rattle.alma_rules.specs.View as view
use Rattle.alma_check_block.proofs.Texts.{ok_eq}
use Rattle.alma_check_block.proofs.Frames.{scene_is, at_scene, bad_entered}
use Rattle.alma_check_block.proofs.variable.declare_variable.Goals as goal

pub returns-in-None : goal.returns-in-None
returns-in-None c f h =
    rw c.in-None.is (ok_eq _ _ _ _ (bad_entered c.args.reader.now f c.args.from (view.view_name c.args.name.now)
    (scene_is c.args.reader.now c.args.frame.now f h))
    (c.enter_name.ensures f [] (at_scene c.args.reader.now c.args.frame.now f h) refl))
