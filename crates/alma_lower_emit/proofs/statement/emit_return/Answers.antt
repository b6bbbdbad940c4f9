use Rattle.std.proofs.Common.{ap}
use Rattle.alma_ir.specs.Tree as tree
use Rattle.alma_ir.specs.View.{return_option}
use Rattle.alma_lower_work.specs.Front.{around}
use Rattle.alma_lower_parts.proofs.StmtForms.{return_put, return_value_put}
use Rattle.alma_lower_parts.proofs.Said.{on_ok, stmt_as}
use Rattle.alma_lower_emit.proofs.Behind.{put_behind}
use Rattle.alma_lower_emit.proofs.statement.emit_return.Goals as goal

pub returns-in-Some : goal.returns-in-Some
returns-in-Some g c = record {
  puts = stmt_as c.return_of.result (around c.args.scene.now) c.args.line _ _ _ _
      (ap (λ x. tree.Return (return_option x)) c.in-Some.is)
      (put_behind c.emit_value-number.result c.return_of.result c.emit_value-number.ensures.puts c.emit_value-number.ensures.value
      c.return_of.ensures.done c.return_of.ensures.puts
      (λ at puts is h. return_value_put (around c.args.scene.now) c.args.line _ _ _ _ _ _ puts is h.first h.second));
}

pub returns-in-None : goal.returns-in-None
returns-in-None g c = record {
  puts = stmt_as c.add.result (around c.args.scene.now) c.args.line _ _ _ _
      (ap (λ x. tree.Return (return_option x)) c.in-None.is)
      (on_ok c.add.result (return_put (around c.args.scene.now) c.args.line _ _) c.add.ensures);
}
