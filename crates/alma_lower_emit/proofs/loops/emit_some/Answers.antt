use Rattle.alma_lower_work.specs.Front.{around}
use Rattle.alma_lower_parts.proofs.Said.{on_ok}
use Rattle.alma_lower_parts.proofs.Turns.{some_joined}
use Rattle.alma_lower_emit.proofs.loops.emit_some.Goals as goal

pub returns : goal.returns
returns g c =
    let bounds = c.in_ok-bounds.ensures in
    record {
      puts = on_ok c.emit_turn.result (some_joined (around c.args.scene.now) c.args.line _ _ _ _ _ _ _ _ _ _ _ _ _ _ _ _ _ _ _ _ _
          bounds.counter bounds.limit bounds.constant c.position-before.ensures bounds.puts.passed bounds.puts.bounds
          c.position-after.ensures c.in_ok-begin_some.ensures c.go_to.ensures.code c.go_to.ensures.kinds c.go_to.ensures.next
          c.go_to.ensures.lines c.go_to.ensures.whole) c.emit_turn.ensures.puts;
    }
