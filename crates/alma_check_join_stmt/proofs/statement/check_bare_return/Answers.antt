use Rattle.std.proofs.Common.{refl, sym, ap, ◌∙◌}
use Rattle.std.specs.Prelude.{pos}
use Rattle.alma_ir.specs.Tree as ir
use Rattle.alma_rules.specs.Judgement.{fine, of_value, at_node, with}
use Rattle.alma_rules.specs.Parts as parts
use Rattle.alma_rules.specs.Nodes as nodes
use Rattle.alma_check_rules.specs.Views.{scene_of, stmts_of}
use Rattle.alma_rules.proofs.Judging.{passed, no_memory, node_stops, node_fine, with_fine}
use Rattle.alma_check_join_stmt.proofs.statement.check_bare_return.Goals as goal

pub returns-in_err-pass_bare_return : goal.returns-in_err-pass_bare_return
returns-in_err-pass_bare_return c = λ n. passed _ stmts_of n _ _ c.from_residual.ensures.1
    (node_stops c.args.node (nodes.no_result (scene_of c.args.env.now c.args.place)) (fine n (parts.integer_typing (pos 0))) _ n _ refl
    c.in_err-pass_bare_return.ensures)

pub returns-in_err-whole : goal.returns-in_err-whole
returns-in_err-whole c = λ n. no_memory _ stmts_of n _ c.from_residual-in_err-whole.ensures.1

pub returns : goal.returns
returns c = λ n. with_fine parts.one_stmt
    (with (λ (t : parts.Typing). ir.Return ir.no_result)
    (at_node c.args.node (nodes.no_result (scene_of c.args.env.now c.args.place)) (fine n (parts.integer_typing (pos 0))))) n _
    (with_fine (λ (t : parts.Typing). ir.Return ir.no_result)
    (at_node c.args.node (nodes.no_result (scene_of c.args.env.now c.args.place)) (fine n (parts.integer_typing (pos 0)))) n _
    (node_fine c.args.node (nodes.no_result (scene_of c.args.env.now c.args.place)) (fine n (parts.integer_typing (pos 0))) n _ refl
    c.in_ok-pass_bare_return.ensures)) ∙ ap (of_value n) (sym c.in_ok-whole.ensures)
