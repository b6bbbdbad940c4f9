use Rattle.std.proofs.Common.{sym, ap, ◌∙◌}
use Rattle.alma_rules.specs.Numbered as tree
use Rattle.alma_rules.specs.View as view
use Rattle.alma_rules.specs.Judgement.{of_value}
use Rattle.alma_check_rules.specs.Views.{scene_of, stmts_of}
use Rattle.alma_rules.proofs.Judging.{answers_as}
use Rattle.alma_rules.proofs.Stmts as stmts
use Rattle.alma_check_phrases.proofs.input.check_writeln.Goals as goal

pub returns-in-None : goal.returns-in-None
returns-in-None g c =
    rw (c.in-None.is, stmts.writeln_is (scene_of c.args.env.now c.args.place) c.args.slot.now c.args.node tree.no_args)
    (c.join_line.ensures _ c.args.slot.now (stmts.line_none (scene_of c.args.env.now c.args.place) c.args.slot.now
    ∙ ap (of_value c.args.slot.now) (sym c.nothing.ensures)))

pub returns-in-None-values : goal.returns-in-None-values
returns-in-None-values g c =
    rw (c.in-Some.is, c.in-None-values.is, stmts.writeln_is (scene_of c.args.env.now c.args.place) c.args.slot.now c.args.node _)
    (c.join_line-in-None-values.ensures _ c.args.slot.now
    (stmts.line_empty (scene_of c.args.env.now c.args.place) c.args.slot.now
    ∙ ap (of_value c.args.slot.now) (sym c.nothing-in-None-values.ensures)))

pub returns-in-Some-values : goal.returns-in-Some-values
returns-in-Some-values g c =
    rw (c.in-Some.is, c.in-Some-values.is, stmts.writeln_is (scene_of c.args.env.now c.args.place) c.args.slot.now c.args.node _)
    (c.join_line-in-Some-values.ensures _ _ (answers_as _ _ stmts_of _ _
    (stmts.line_some (scene_of c.args.env.now c.args.place) c.args.slot.now (view.view_exprs c.in-Some-values.values))
    c.check_items-stmts.ensures))
