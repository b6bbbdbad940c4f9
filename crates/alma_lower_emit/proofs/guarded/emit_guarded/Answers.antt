use Rattle.std.proofs.Common.{refl}
use Rattle.alma_lower_work.specs.Front.{around}
use Rattle.alma_lower_parts.proofs.GuardForms.{guarded_put}
use Rattle.alma_lower_parts.proofs.Said.{from_both, said}
use Rattle.alma_lower_emit.proofs.guarded.emit_guarded.Goals as goal

pub returns : goal.returns
returns g c = record {
  puts = from_both c.then_aim.result c.then_aim.ensures.done c.then_aim.ensures.aims
      (λ ok h. guarded_put (around c.args.scene.now) c.args.line _ _ _ _ _ _ _ _ _ c.in_ok-jump.ensures.guard
      (said c.emit_inside-done.result ok c.emit_inside-done.ensures.puts) h refl);
}
