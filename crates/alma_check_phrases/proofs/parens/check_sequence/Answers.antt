use Rattle.alma_rules.specs.View as view
use Rattle.alma_rules.specs.Scene.{inside_of}
use Rattle.alma_rules.specs.Walk as walk
use Rattle.alma_check_rules.specs.Views.{scene_of}
use Rattle.alma_check_phrases.proofs.parens.check_sequence.Goals as goal

pub returns : goal.returns
returns g c =
    c.join_sequence.ensures (walk.judge_stmts (inside_of (scene_of c.args.env.now c.args.place)) c.args.slot.now
    (view.view_stmts c.args.body.now)) _ (c.requires.judges.each_call _ _ _ _ _ _ _ c.inside-stmts.ensures)
