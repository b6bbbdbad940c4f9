use Rattle.std.proofs.Common.{[], None, refl, ◌∙◌}
use Rattle.alma_rules.specs.View as view
use Rattle.alma_rules.specs.Decls as rules
use Rattle.alma_check_block.proofs.Frames.{scene_is, at_scene, bad_entered, formal_pushed}
use Rattle.alma_check_block.proofs.formal.declare_bad.Goals as goal

pub returns : goal.returns
returns c f h =
    formal_pushed c.enter_name.new.reader c.enter_name.new.frame c.push.new.self None
    (rules.variable_in f c.args.from None (view.view_name c.args.name.now))
    (c.in_ok-enter_name.ensures f [] (at_scene c.args.reader.now c.args.frame.now f h) refl
    ∙ bad_entered c.args.reader.now f c.args.from (view.view_name c.args.name.now) (scene_is c.args.reader.now c.args.frame.now f h))
    c.in_ok-push.ensures.items
