use Rattle.std.proofs.Common.{ap, arith}
use Rattle.alma_ir.specs.View.{stmts_list}
use Rattle.alma_lower_work.specs.Front.{around}
use Rattle.alma_lower_parts.proofs.Said.{on_ok, from_both, said, no_elements}
use Rattle.alma_lower_parts.proofs.Arms.{next_arm, skipped_arm, turns_is}
use Rattle.alma_lower_emit.proofs.case.emit_next_arm.Goals as goal

pub returns : goal.returns
returns g c = record {
  puts = λ test. from_both c.then_add.result c.then_add.ensures.done c.then_add.ensures.codes
      (λ ok j e rest h. next_arm (around c.args.scene.now) c.args.line _ _ _ _ _ _ _ _ _ _
      (said c.emit_case_arm-done.result ok (c.emit_case_arm-done.ensures.puts test)) j h);
}

pub returns-then-is_empty : goal.returns-then-is_empty
returns-then-is_empty g c = record {
  puts =
      λ test. on_ok c.pass_stmts.result (λ h e rest j. skipped_arm (around c.args.scene.now) c.args.line _ _ _ _ _ _ _ _ _
      (omega (arith, no_elements _ c.if-is_empty.ensures, c.args.arm.now.labels.ok.0))
      (turns_is (around c.args.scene.now) c.args.line _ _ _ _ (ap stmts_list c.deref.ensures.value) h) j) c.pass_stmts.ensures;
}
