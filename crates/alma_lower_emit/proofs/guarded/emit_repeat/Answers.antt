use Rattle.alma_lower_work.specs.Front.{around}
use Rattle.alma_lower_parts.proofs.IfForms.{repeat_put}
use Rattle.alma_lower_parts.proofs.Said.{with_value}
use Rattle.alma_lower_emit.proofs.guarded.emit_repeat.Goals as goal

pub returns : goal.returns
returns g c = record {
  puts = with_value c.emit_guard-jump.result c.end_repeat.result c.emit_guard-jump.ensures.guard
      c.end_repeat.ensures.done c.end_repeat.ensures.aims
      (λ jump guard h. repeat_put (around c.args.scene.now) c.args.line _ _ _ _ _ _ _ _ c.in_ok-top.ensures.address
      c.in_ok-emit_inside.ensures.puts guard h);
}
