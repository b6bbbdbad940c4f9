use Rattle.std.proofs.Common.{ap, arith}
use Rattle.alma_ir.specs.View.{stmts_list}
use Rattle.alma_lower_work.specs.Front.{around}
use Rattle.alma_lower_parts.proofs.Said.{on_ok, stmts_is, some_elements, no_elements}
use Rattle.alma_lower_parts.proofs.Arms.{passed_body, dead_body, turns_is}
use Rattle.alma_lower_emit.proofs.case.emit_dead_body.Goals as goal

pub returns-then-not-is_empty : goal.returns-then-not-is_empty
returns-then-not-is_empty g c = record {
  puts =
      on_ok c.pass_stmts.result (λ h e rest j. passed_body (around c.args.scene.now) 0 _ _ _ _ _ _
      (omega (arith, some_elements _ c.if-not-is_empty.ensures, c.args.arm.now.labels.ok.0))
      (turns_is (around c.args.scene.now) 0 _ _ _ _ (ap stmts_list c.deref.ensures.value) h) j) c.pass_stmts.ensures;
}

pub returns : goal.returns
returns g c = record {
  puts = on_ok c.emit_inside.result
      (λ h e rest j. dead_body (around c.args.scene.now) 0 _ _ _ _ _ _
      (omega (arith, no_elements _ c.if-not-is_empty.ensures, c.args.arm.now.labels.ok.0))
      (stmts_is (around c.args.scene.now) 0 _ _ _ _ (ap stmts_list c.deref-2.ensures.value) h) j) c.emit_inside.ensures.puts;
}
