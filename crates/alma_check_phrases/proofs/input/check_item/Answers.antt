use Rattle.std.proofs.Common.{sym}
use Rattle.alma_check_phrases.proofs.Begins.{node_is}
use Rattle.alma_check_phrases.proofs.Items as items
use Rattle.alma_rules.specs.Numbered as tree
use Rattle.alma_rules.specs.View as view
use Rattle.alma_rules.specs.Nodes as nodes
use Rattle.alma_rules.specs.Walk as walk
use Rattle.alma_check_rules.specs.Views.{scene_of}
use Rattle.alma_check_phrases.proofs.input.check_item.Goals as goal

pub returns-in-None : goal.returns-in-None
returns-in-None g c =
    rw (
      items.item_plain (scene_of c.args.env.now c.args.place) c.args.slot.now (tree.expr_node (view.view_expr c.args.item.now))
          (walk.judge_expr (scene_of c.args.env.now c.args.place) c.args.slot.now (view.view_expr c.args.item.now))
          (nodes.item_literal (view.view_expr c.args.item.now)) (sym c.in-None.ensures),
      node_is c.args.item.now,
    )
    (c.join_item.ensures _ _ c.check_expr-typed.ensures)

pub returns-in-Some : goal.returns-in-Some
returns-in-Some g c =
    rw (items.item_text (scene_of c.args.env.now c.args.place) c.args.slot.now (tree.expr_node (view.view_expr c.args.item.now))
    (walk.judge_expr (scene_of c.args.env.now c.args.place) c.args.slot.now (view.view_expr c.args.item.now))
    (nodes.item_literal (view.view_expr c.args.item.now)) _ (sym c.in-Some.ensures))
    (c.check_text.ensures c.args.slot.now)
