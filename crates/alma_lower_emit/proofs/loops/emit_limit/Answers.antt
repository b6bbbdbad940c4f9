use Rattle.alma_lower_work.specs.Front.{around}
use Rattle.alma_lower_parts.proofs.LimitForms.{straight_limit, moved_limit}
use Rattle.alma_lower_parts.proofs.Said.{on_ok}
use Rattle.alma_lower_emit.proofs.loops.emit_limit.Goals as goal

pub returns-then-ends_alone : goal.returns-then-ends_alone
returns-then-ends_alone g c =
    record {
      puts = straight_limit (around c.args.scene.now) c.args.line _ _ _ _ _ c.if-ends_alone.ensures c.in_ok-last.ensures.puts
          c.redirect.ensures;
    }

pub returns : goal.returns
returns g c =
    record {
      puts = on_ok c.add.result (moved_limit (around c.args.scene.now) c.args.line _ _ _ _ _ _ c.if-ends_alone.ensures
          c.in_ok-last.ensures.from c.in_ok-last.ensures.puts) c.add.ensures;
    }
