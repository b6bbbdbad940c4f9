use Rattle.std.proofs.Common.{refl, sym, ap, ◌∙◌}
use Rattle.alma_ir.specs.Tree as ir
use Rattle.alma_rules.specs.Judgement.{fine, of_value}
use Rattle.alma_rules.specs.Parts as parts
use Rattle.alma_rules.specs.Nodes as nodes
use Rattle.alma_check_rules.specs.Views.{scene_of, stmts_of}
use Rattle.alma_rules.proofs.Judging.{passed, no_memory, node_stops, node_fine}
use Rattle.alma_check_join_stmt.proofs.statement.check_text.Goals as goal

pub returns-in_err-pass_constant : goal.returns-in_err-pass_constant
returns-in_err-pass_constant c = λ n. passed _ stmts_of n _ _ c.from_residual.ensures.1
    (node_stops c.args.node (nodes.text_rules (scene_of c.args.env.now c.args.place))
    (fine n (parts.one_stmt (ir.WriteText c.args.bytes.now))) _ n _ refl c.in_err-pass_constant.ensures)

pub returns-in_err-whole : goal.returns-in_err-whole
returns-in_err-whole c = λ n. no_memory _ stmts_of n _ c.from_residual-in_err-whole.ensures.1

pub returns : goal.returns
returns c = λ n. node_fine c.args.node (nodes.text_rules (scene_of c.args.env.now c.args.place))
    (fine n (parts.one_stmt (ir.WriteText c.args.bytes.now))) n _ refl c.in_ok-pass_constant.ensures
    ∙ ap (of_value n) (sym c.in_ok-whole.ensures)
