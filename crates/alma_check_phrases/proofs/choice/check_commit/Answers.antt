use Rattle.alma_rules.specs.View as view
use Rattle.alma_check_rules.specs.Views.{scene_of}
use Rattle.alma_rules.proofs.Stmts as stmts
use Rattle.alma_check_phrases.proofs.choice.check_commit.Goals as goal

pub returns : goal.returns
returns g c =
    rw (stmts.commit_at (scene_of c.args.env.now c.args.place) c.args.slot.now c.args.node (view.view_stmts c.args.body.now))
    (c.join_commit.ensures _ _ c.nested-body.ensures)
