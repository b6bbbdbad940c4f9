use Rattle.std.proofs.Common.{◌∙◌, sym}
use Rattle.alma_lower_work.specs.Front.{around}
use Rattle.alma_lower_parts.proofs.LimitForms.{constant_first, other_first}
use Rattle.alma_lower_parts.proofs.Said.{on_ok}
use Rattle.alma_lower_emit.proofs.loops.emit_first_count.Goals as goal

pub returns-in-Some : goal.returns-in-Some
returns-in-Some g c =
    record {
      slot = c.slot.ensures.slot;
      puts = on_ok c.slot.result (constant_first (around c.args.scene.now) c.args.line _ _ _ _ (sym c.in-Some.is ∙ c.constant.ensures))
          c.slot.ensures.takes;
    }

pub returns-in-None : goal.returns-in-None
returns-in-None g c =
    record {
      slot = c.emit_expr.ensures.slot;
      puts = on_ok c.emit_expr.result (other_first (around c.args.scene.now) c.args.line _ _ _ (sym c.in-None.is ∙ c.constant.ensures))
          c.emit_expr.ensures.puts;
    }
