use Rattle.alma_lower_work.specs.Front.{around}
use Rattle.alma_lower_parts.proofs.StmtForms.{forall_put}
use Rattle.alma_lower_parts.proofs.Said.{from_both, said}
use Rattle.alma_lower_emit.proofs.choice.emit_forall.Goals as goal

pub returns : goal.returns
returns g c =
    record {
      puts = from_both c.end_both.result c.end_both.ensures.done c.end_both.ensures.ends
          (λ ok e. forall_put (around c.args.scene.now) c.args.line _ _ _ _ _ _ _ _ _ _ _ _ _ c.in_ok-mark.ensures.holes
          c.in_ok-mark.ensures.mark (said c.emit_inside-done.result c.in_ok-each.ensures.done c.emit_inside-done.ensures.puts)
          c.in_ok-each.ensures.holes c.in_ok-each.ensures.mark (said c.emit_inside-last.result ok c.emit_inside-last.ensures.puts) e.each
          e.whole);
    }
