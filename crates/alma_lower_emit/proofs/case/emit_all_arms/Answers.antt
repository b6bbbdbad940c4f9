use Rattle.std.proofs.Common.{sym, ap}
use Rattle.std.proofs.Math.ListN.{drop_of_length-le}
use Rattle.alma_ir.specs.View.{cases_list}
use Rattle.alma_lower_work.specs.Front.{around}
use Rattle.alma_lower_parts.proofs.Said.{on_ok, all_is, slice_rest}
use Rattle.alma_lower_parts.proofs.Arms.{all_none}
use Rattle.alma_lower_emit.proofs.case.emit_all_arms.Goals as goal

pub returns-then-first-arms : goal.returns-then-first-arms
returns-then-first-arms g c = record {
  puts =
      λ test. on_ok c.emit_else.result (λ h. c.in_ok-first.ensures (around c.args.scene.now) c.args.line _ _ _ _
      (all_is (around c.args.scene.now) c.args.line _ _ _ _ _ _ _
      (ap cases_list (sym (drop_of_length-le c.args.arms.now c.if-first-arms.true)))
      (all_none (around c.args.scene.now) c.args.line _ _ _ _ _ h))) c.emit_else.ensures.puts;
}

pub returns : goal.returns
returns g c = record {
  puts = λ test. on_ok c.emit_labelled.result
      (λ h. c.in_ok-first.ensures (around c.args.scene.now) c.args.line _ _ _ _
      (all_is (around c.args.scene.now) c.args.line _ _ _ _ _ _ _ (ap cases_list (slice_rest c.args.arms.now c.in_ok-first.first)) h))
      (c.emit_labelled.ensures.puts test);
}
