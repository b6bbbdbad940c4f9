use Rattle.std.proofs.Common.{◌∙◌}
use Rattle.alma_lower_work.specs.Front.{around}
use Rattle.alma_lower_parts.proofs.Said.{on_ok, said}
use Rattle.alma_lower_parts.proofs.Arms.{case_put}
use Rattle.alma_lower_emit.proofs.case.emit_case.Goals as goal

pub returns : goal.returns
returns g c = record {
  puts = on_ok c.emit_all_arms.result
      (case_put (around c.args.scene.now) c.args.line _ _ _ _ _ _ _ _ _ _ c.in_ok-value.ensures.puts
      (c.in_ok-labels.ensures.value ∙ c.in_ok-value.ensures.slot)
      (said c.emit_dead_arms-done.result c.in_ok-labels.ensures.done c.emit_dead_arms-done.ensures.puts) c.in_ok-labels.ensures.puts
      c.in_ok-labels.ensures.bound) (c.emit_all_arms.ensures.puts c.in_ok-labels.ensures.test);
}
