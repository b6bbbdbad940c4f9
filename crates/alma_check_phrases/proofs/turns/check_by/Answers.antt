use Rattle.std.proofs.Common.{refl}
use Rattle.alma_check_phrases.proofs.Begins.{node_is}
use Rattle.alma_rules.specs.View as view
use Rattle.alma_check_rules.specs.Views.{scene_of}
use Rattle.alma_rules.proofs.Stmts as stmts
use Rattle.alma_check_phrases.proofs.turns.check_by.Goals as goal

pub returns-in-None : goal.returns-in-None
returns-in-None g c =
    rw (c.in-None.is, stmts.by_none (scene_of c.args.env.now c.args.place) c.args.slot.now) refl

pub returns-in-Some : goal.returns-in-Some
returns-in-Some g c =
    rw (
      c.in-Some.is,
      stmts.by_some (scene_of c.args.env.now c.args.place) c.args.slot.now (view.view_expr c.in-Some.by),
      node_is c.in-Some.by,
    ) (c.join_step.ensures _ _ c.check_expr-typed.ensures)
