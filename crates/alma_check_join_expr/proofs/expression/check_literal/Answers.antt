use Rattle.alma_rules.specs.Judgement.{fine, at_node}
use Rattle.alma_rules.specs.Scene.{literal_at}
use Rattle.alma_rules.specs.ExprRules as rules
use Rattle.alma_rules.specs.Nodes as nodes
use Rattle.alma_check_rules.specs.Views.{scene_of, somewhere, typing_of}
use Rattle.alma_rules.proofs.Judging.{passed}
use Rattle.alma_check_join_expr.proofs.expression.check_literal.Goals as goal

pub returns-in_err-pass_literal : goal.returns-in_err-pass_literal
returns-in_err-pass_literal c = λ n. passed
    (at_node c.args.node (rules.literal_rules (scene_of c.args.env.now c.args.place)
    (literal_at (scene_of c.args.env.now somewhere) c.args.token))
    (fine n (nodes.literal_typing (scene_of c.args.env.now somewhere) c.args.token))) typing_of n _ _ c.from_residual.ensures.1
    (rw c.literal-text.ensures at c.in_err-pass_literal.ensures)
