use Rattle.std.proofs.Common.{◌≡◌, ◌+◌, drop, sym, ap, arith}
use Rattle.std.proofs.Math.ListN.{drop_of_length-le}
use Rattle.alma_ir.specs.Tree as tree
use Rattle.alma_ir.specs.View.{stmts_list, cases_list}
use Rattle.alma_lower_work.specs.Front.{around}
use Rattle.alma_lower_parts.proofs.CaseForms.{no_cases_put}
use Rattle.alma_lower_parts.proofs.Said.{cases_is, drop_one}
use Rattle.alma_lower_emit.proofs.case.emit_cases.Goals as goal

pub loop-arm-init : goal.loop-arm-init
loop-arm-init g c = λ test e h. h

pub loop-arm-preserved : goal.loop-arm-preserved
loop-arm-preserved g c =
    let l = c.loop-arm in
    let one : cases_list (drop l.arm-index c.args.arms.now) ≡ tree.more_cases c.arm-item.result.labels.items
    (stmts_list c.arm-item.result.body.items) (cases_list (drop (l.arm-index + 1) c.args.arms.now)) =
    ap cases_list (drop_one c.args.arms.now l.arm-index c.arm-item.result c.loop-arm-test.true c.arm-item.is) in
    λ test e h. l.invariant test e (cases_is (around c.args.scene.now) c.args.line _ _ _ _ _ _ _ (sym one)
    (c.in_ok-emit_next_arm.ensures.puts test e _ h))

pub returns : goal.returns
returns g c = record {
  puts = λ test. c.loop-arm.invariant test _
      (cases_is (around c.args.scene.now) c.args.line _ _ _ _ _ _ _
      (ap cases_list (sym (drop_of_length-le c.args.arms.now (omega (arith, c.loop-arm-test.false)))))
      (no_cases_put (around c.args.scene.now) c.args.line _ _ _ _));
}
