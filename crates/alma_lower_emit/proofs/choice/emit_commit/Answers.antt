use Rattle.alma_lower_work.specs.Front.{around}
use Rattle.alma_lower_parts.proofs.StmtForms.{commit_put}
use Rattle.alma_lower_parts.proofs.Said.{from_both, said}
use Rattle.alma_lower_emit.proofs.choice.emit_commit.Goals as goal

pub returns : goal.returns
returns g c = record {
  puts = from_both c.then_add.result c.then_add.ensures.done c.then_add.ensures.codes
      (λ ok h. commit_put (around c.args.scene.now) c.args.line _ _ _ _ _ _ _ c.in_ok-mark.ensures.puts.takes c.in_ok-mark.ensures.slot
      c.in_ok-mark.ensures.puts.codes (said c.emit_inside-done.result ok c.emit_inside-done.ensures.puts) h);
}
