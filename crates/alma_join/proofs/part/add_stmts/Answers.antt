use Rattle.std.proofs.Common.{◌∙◌, ap}
use Rattle.alma_ir.specs.View.{stmts_list}
use Rattle.alma_join.proofs.Copies.{stmts_append}
use Rattle.alma_join.proofs.part.add_stmts.Goals as goal
use Rattle.alma_rules.specs.Parts.{append_stmts}

pub returns : goal.returns
returns c = ap stmts_list c.in_ok-append.ensures.items ∙ stmts_append c.args.body.now.items _
    ∙ ap (append_stmts (stmts_list c.args.body.now.items)) c.in_ok-more.ensures
