use Rattle.std.proofs.Common.{sym, ◌∙◌}
use Rattle.alma_rules.specs.Judgement.{of_value, both}
use Rattle.alma_rules.specs.View.{factors_of}
use Rattle.alma_check_rules.specs.Views.{scene_of, typing_in, typing_of, operand_view, operands_in}
use Rattle.alma_rules.proofs.Judging.{passed, answers_as}
use Rattle.alma_check_join_expr.proofs.Chains as chains
use Rattle.alma_check_join_expr.proofs.chain.join_product.Goals as goal

pub returns-in_err-rest : goal.returns-in_err-rest
returns-in_err-rest c = λ j n m a. passed _ typing_of m _ _ c.from_residual.ensures.1
    (chains.product_stops (scene_of c.args.env.now c.args.place) (operand_view c.args.operand) c.args.node (factors_of c.args.more.now)
    (both (of_value n (typing_in c.args.first)) j) _ (rw c.in_err-rest.was at a))

pub returns-in_err-pass_operand : goal.returns-in_err-pass_operand
returns-in_err-pass_operand c = λ j n m a. passed _ typing_of m _ _ c.from_residual-in_err-pass_operand.ensures.1
    (chains.product_alone_stops (scene_of c.args.env.now c.args.place) (operand_view c.args.operand) c.args.node n m
    (factors_of c.args.more.now) (typing_in c.args.first) j (operands_in c.in_ok-rest.rest)
    (typing_in c.alone-typed.result) _ (sym c.is_one_factor.ensures ∙ c.if-is_one_factor.true) (rw c.in_ok-rest.was at a)
    c.alone-typed.ensures c.in_err-pass_operand.ensures)

pub returns : goal.returns
returns c = λ j n m a. answers_as _ _ typing_of m _
    (chains.product_whole (scene_of c.args.env.now c.args.place) (operand_view c.args.operand) c.args.node n m (factors_of c.args.more.now)
    (typing_in c.args.first) j (operands_in c.in_ok-rest.rest) c.any_and.result
    (sym c.is_one_factor.ensures ∙ c.if-is_one_factor.false) c.any_and.ensures (rw c.in_ok-rest.was at a))
    (c.join_chain.ensures m)
