use Rattle.std.proofs.Common.{sym}
use Rattle.alma_lower_work.specs.Front.{around}
use Rattle.alma_lower_parts.proofs.CaseForms.{no_dead_put}
use Rattle.alma_lower_parts.proofs.Said.{from_both, said}
use Rattle.alma_lower_parts.proofs.Arms.{dead_joined}
use Rattle.alma_lower_emit.proofs.case.emit_dead_arms.Goals as goal

pub returns-then-not-has_dead : goal.returns-then-not-has_dead
returns-then-not-has_dead g c = record { puts = no_dead_put (around c.args.scene.now) c.args.line _ _ (sym c.if-not-has_dead.ensures) }

pub returns : goal.returns
returns g c =
    record {
      puts = from_both c.end_dead.result c.end_dead.ensures.done c.end_dead.ensures.ends
          (λ ok e. dead_joined (around c.args.scene.now) c.args.line _ _ _ _ _ _ _ _ (sym c.if-not-has_dead.ensures)
          c.position-before.ensures c.in_ok-over.ensures.address c.in_ok-over.ensures.codes
          (said c.emit_dead_bodies-done.result ok c.emit_dead_bodies-done.ensures.puts) e.code e.kinds e.next e.lines e.whole e.aims);
    }
