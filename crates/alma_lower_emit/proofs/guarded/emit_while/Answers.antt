use Rattle.std.proofs.Common.{◌∙◌, sym, ap}
use Rattle.alma_ir.specs.Tree as tree
use Rattle.alma_ir.specs.View.{stmts_list}
use Rattle.alma_lower_templates.specs.Slots.{is_turned}
use Rattle.alma_lower_work.specs.Front.{around}
use Rattle.alma_lower_parts.proofs.IfForms.{while_put}
use Rattle.alma_lower_parts.proofs.Said.{from_both, said, stmt_as}
use Rattle.alma_lower_emit.proofs.guarded.emit_while.Goals as goal

pub returns-in-Some : goal.returns-in-Some
returns-in-Some g c = record {
  puts = stmt_as c.emit_turned.result (around c.args.scene.now) c.args.line _ _ _ _
      (ap (λ t. tree.While t (stmts_list c.args.body.now)) c.in-Some.ensures.is)
      (c.emit_turned.ensures.puts (sym (ap is_turned c.in-Some.ensures.is) ∙ c.in-Some.ensures.turned));
}

pub returns-in_ok-top-in-None : goal.returns-in_ok-top-in-None
returns-in_ok-top-in-None g c = record {
  puts = from_both c.then_add.result c.then_add.ensures.done c.then_add.ensures.codes
      (λ ok h. while_put (around c.args.scene.now) c.args.line _ _ _ _ _ _ _ c.in-None.ensures c.in_ok-top-in-None.ensures.top_at
      c.in_ok-top-in-None.ensures.codes (said c.emit_guarded-done.result ok c.emit_guarded-done.ensures.puts) h);
}
