use Rattle.std.proofs.Common.{refl, sym, ap, ◌∙◌}
use Rattle.alma_rules.specs.Judgement.{of_value}
use Rattle.alma_rules.specs.Parts as parts
use Rattle.alma_rules.specs.ExprRules as rules
use Rattle.alma_check_rules.specs.Views.{scene_of, somewhere, headings_in, found_view, denoted_of}
use Rattle.alma_rules.proofs.Judging.{passed, node_stops, node_fine}
use Rattle.alma_check_join_expr.proofs.expression.check_found.Goals as goal

pub returns-in_err-pass_name : goal.returns-in_err-pass_name
returns-in_err-pass_name c = λ n. passed _ (denoted_of (headings_in c.args.env.now)) n _ _ c.from_residual.ensures.1
    (node_stops c.args.node (rules.name_rules (found_view (headings_in c.args.env.now) c.args.found))
    (of_value n (parts.denotation (scene_of c.args.env.now somewhere) (found_view (headings_in c.args.env.now) c.args.found))) _ n _ refl
    c.in_err-pass_name.ensures)

pub returns : goal.returns
returns c = λ n. node_fine c.args.node (rules.name_rules (found_view (headings_in c.args.env.now) c.args.found))
    (of_value n (parts.denotation (scene_of c.args.env.now somewhere) (found_view (headings_in c.args.env.now) c.args.found))) n _ refl
    c.in_ok-pass_name.ensures ∙ ap (of_value n) (sym c.denoted.ensures)
