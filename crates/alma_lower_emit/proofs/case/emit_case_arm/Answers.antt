use Rattle.std.proofs.Common.{ap}
use Rattle.alma_ir.specs.View.{stmts_list}
use Rattle.alma_lower_work.specs.Front.{around}
use Rattle.alma_lower_parts.proofs.Said.{from_both, said, arm_is}
use Rattle.alma_lower_parts.proofs.Arms.{arm_of}
use Rattle.alma_lower_emit.proofs.case.emit_case_arm.Goals as goal

pub returns : goal.returns
returns g c =
    record {
      puts = λ test. from_both c.end_arm.result c.end_arm.ensures.done c.end_arm.ensures.ends
          (λ ok e. arm_is (around c.args.scene.now) c.args.line _ _ _ _ _ _ _ _ c.deref.ensures.value
          (ap stmts_list c.deref-2.ensures.value) (arm_of (around c.args.scene.now) c.args.line _ _ _ _ _ _ _ _ _ _ _ _
          c.in_ok-miss.ensures.some (c.in_ok-miss.ensures.holes test)
          (said c.emit_inside-done.result ok c.emit_inside-done.ensures.puts) e.target_at e.aims_low e.aims_high));
    }
