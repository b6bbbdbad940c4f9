use Rattle.std.proofs.Common.{refl}
use Rattle.alma_lower_work.specs.Front.{around}
use Rattle.alma_lower_parts.proofs.TurnedForms.{turned_put}
use Rattle.alma_lower_parts.proofs.Said.{said, then_ok}
use Rattle.alma_lower_emit.proofs.guarded.emit_turned.Goals as goal

pub returns : goal.returns
returns g c = record {
  puts = λ is. then_ok c.emit_back.result (c.emit_back.ensures.puts _ c.in_ok-held.ensures.held_at)
      (λ h. turned_put (around c.args.scene.now) c.args.line _ _ _ _ _ _ _ _ _ _ _ _ is c.in_ok-held.ensures c.in_ok-jump.ensures.address
      c.in_ok-jump.ensures.codes c.in_ok-top.ensures.address
      (said c.emit_inside-done.result c.in_ok-then_aim.ensures.done c.emit_inside-done.ensures.puts) c.in_ok-then_aim.ensures.aims refl h);
}
