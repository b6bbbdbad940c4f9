use Rattle.std.proofs.Common.{refl, sym, ap, ◌∙◌}
use Rattle.alma_rules.specs.Judgement.{of_value, at_node}
use Rattle.alma_rules.specs.Parts as parts
use Rattle.alma_rules.specs.ExprRules as rules
use Rattle.alma_check_rules.specs.Views.{scene_of, somewhere, headings_in, denoted_in, denoted_of}
use Rattle.alma_rules.proofs.Judging.{passed, no_memory, node_stops, node_fine, with_some_fine}
use Rattle.alma_check_join_expr.proofs.expression.join_field.Goals as goal

pub returns-in_err-pass_field : goal.returns-in_err-pass_field
returns-in_err-pass_field c = λ n. passed _ (denoted_of (headings_in c.args.env.now)) n _ _ c.from_residual.ensures.1
    (node_stops c.args.node (rules.field_rules (scene_of c.args.env.now somewhere) c.args.name.now)
    (of_value n (denoted_in (headings_in c.args.env.now) c.args.found)) _ n _ refl c.in_err-pass_field.ensures)

pub returns-in_err-part : goal.returns-in_err-part
returns-in_err-part c = λ n. no_memory _ (denoted_of (headings_in c.args.env.now)) n _ c.from_residual-in_err-part.ensures.1

pub returns : goal.returns
returns c = λ n. with_some_fine (parts.select_field (scene_of c.args.env.now somewhere) c.args.name.now)
    (at_node c.args.node (rules.field_rules (scene_of c.args.env.now somewhere) c.args.name.now)
    (of_value n (denoted_in (headings_in c.args.env.now) c.args.found))) n _
    (node_fine c.args.node (rules.field_rules (scene_of c.args.env.now somewhere) c.args.name.now)
    (of_value n (denoted_in (headings_in c.args.env.now) c.args.found)) n _ refl c.in_ok-pass_field.ensures)
    ∙ ap (of_value n) (sym c.in_ok-part.ensures)
