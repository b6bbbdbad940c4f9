use Rattle.alma_rules.specs.Modules as modules
use Rattle.alma_rules.specs.View as view
use Rattle.alma_check_stmt.specs.Inner.Framed.{frame_in}
use Rattle.alma_check_stmt.proofs.Own.{own_answers}
use Rattle.alma_check_stmt.proofs.body.check_own.Goals as goal

pub returns-clause-added : goal.returns-clause-added
returns-clause-added c =
    c.add_routine.ensures.added (modules.judge_body (frame_in c.args.reader.now c.args.frame.now) (view.body_of c.args.body.now))
    (frame_in c.args.reader.now c.args.frame.now) (view.view_name c.args.site.name.now) c.args.site.outer
    (modules.body_lines c.args.reader.now c.args.site.end (view.body_of c.args.body.now))
    (own_answers c.args.reader.now c.args.frame.now _ _ (view.body_of c.args.body.now) _ c.in_ok-outline.ensures.slots
    c.judge_body-judged.ensures) c.in_ok-outline.ensures.shape
