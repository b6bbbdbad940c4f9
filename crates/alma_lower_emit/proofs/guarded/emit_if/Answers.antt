use Rattle.std.proofs.Common.{ap}
use Rattle.alma_ir.specs.View.{stmts_list}
use Rattle.alma_lower_work.specs.Front.{around}
use Rattle.alma_lower_parts.proofs.Said.{on_ok, from_both, said, some_elements, no_elements}
use Rattle.alma_lower_parts.proofs.Rows.{guarded_is, if_none, if_of}
use Rattle.alma_lower_emit.proofs.guarded.emit_if.Goals as goal

pub returns-then-is_empty : goal.returns-then-is_empty
returns-then-is_empty g c = record {
  puts =
      on_ok c.emit_inside.result (if_none (around c.args.scene.now) c.args.line _ _ c.args.arms.now _ (no_elements _ c.if-is_empty.ensures))
      c.emit_inside.ensures.puts;
}

pub returns : goal.returns
returns g c =
    record {
      puts = from_both c.then_aim.result c.then_aim.ensures.done c.then_aim.ensures.aims
          (λ ok h. if_of (around c.args.scene.now) c.args.line _ _ _ _ _ _ _ c.args.arms.now c.index-arms-0.result _
          (some_elements _ c.if-is_empty.ensures) c.index-arms-0.is
          (guarded_is (around c.args.scene.now) c.args.line _ _ _ _ _ (ap stmts_list c.deref.ensures.value)
          (said c.emit_guarded-done.result c.in_ok-exit.ensures.done c.emit_guarded-done.ensures.puts)) c.in_ok-exit.ensures.address
          c.in_ok-exit.ensures.codes c.in_ok-emit_arms.ensures.puts
          (said c.emit_inside-done.result ok c.emit_inside-done.ensures.puts) h);
    }
