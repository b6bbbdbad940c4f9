use Rattle.std.proofs.Common.{◌≡◌, ◌∙◌, sym, ap}
use Rattle.alma_ir.specs.Tree as tree
use Rattle.alma_ir.specs.View.{stmts_list, else_option}
use Rattle.alma_lower_work.specs.Front.{around}
use Rattle.alma_lower_parts.proofs.CaseForms.{no_else_put, else_put}
use Rattle.alma_lower_parts.proofs.Said.{on_ok, else_as}
use Rattle.alma_lower_emit.proofs.case.emit_else.Goals as goal

pub returns-in-Some : goal.returns-in-Some
returns-in-Some g c =
    let view : else_option c.args.rest.now ≡ tree.else_part (stmts_list c.deref.result.now) = ap else_option c.in-Some.is
    ∙ ap (λ x. tree.else_part (stmts_list x)) (sym c.deref.ensures.value) in
    record {
      puts = else_as c.emit_inside.result (around c.args.scene.now) c.args.line _ _ _ _ view
          (on_ok c.emit_inside.result (else_put (around c.args.scene.now) c.args.line _ _ _) c.emit_inside.ensures.puts);
    }

pub returns-in-None : goal.returns-in-None
returns-in-None g c = record {
  puts = else_as c.add.result (around c.args.scene.now) c.args.line _ _ _ _ (ap else_option c.in-None.is)
      (on_ok c.add.result (no_else_put (around c.args.scene.now) c.args.line _ _) c.add.ensures);
}
