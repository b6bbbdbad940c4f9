use Rattle.std.proofs.Common.{sym, ap, ◌∙◌}
use Rattle.alma_rules.specs.Judgement.{of_value, both}
use Rattle.alma_rules.specs.View.{terms_of}
use Rattle.alma_rules.specs.Parts as parts
use Rattle.alma_check_rules.specs.Views.{scene_of, typing_in, typing_of, operands_in}
use Rattle.alma_rules.proofs.Judging.{passed, answers_as, both_fine, with_fine}
use Rattle.alma_check_join_expr.proofs.Chains as chains
use Rattle.alma_check_join_expr.proofs.chain.join_sum.Goals as goal

pub returns-in_err-rest : goal.returns-in_err-rest
returns-in_err-rest c = λ j n m a. passed _ typing_of m _ _ c.from_residual.ensures.1
    (chains.sum_stops (scene_of c.args.env.now c.args.place) c.args.node c.args.sign (terms_of c.args.more.now)
    (both (of_value n (typing_in c.args.first)) j) _ (rw c.in_err-rest.was at a))

pub returns-then-is_one_term : goal.returns-then-is_one_term
returns-then-is_one_term c = λ j n m a.
    chains.sum_one (scene_of c.args.env.now c.args.place) c.args.node c.args.sign (terms_of c.args.more.now)
    (both (of_value n (typing_in c.args.first)) j) (sym c.is_one_term.ensures ∙ c.if-is_one_term.true)
    ∙ with_fine (λ (p : parts.Typing × parts.Operands). p.0) (both (of_value n (typing_in c.args.first)) j) m _
    (both_fine n m (typing_in c.args.first) j _ (rw c.in_ok-rest.was at a))
    ∙ ap (of_value m) (sym c.alone.ensures)

pub returns : goal.returns
returns c = λ j n m a. answers_as _ _ typing_of m _
    (chains.sum_whole (scene_of c.args.env.now c.args.place) c.args.node n m c.args.sign (terms_of c.args.more.now) (typing_in c.args.first)
    j (operands_in c.in_ok-rest.rest) c.any_or.result
    (sym c.is_one_term.ensures ∙ c.if-is_one_term.false) c.any_or.ensures (rw c.in_ok-rest.was at a))
    (c.join_chain.ensures m)
