use Rattle.std.proofs.Common.{◌≡◌, ◌+◌, drop, sym, ap, arith}
use Rattle.std.proofs.Math.ListN.{drop_of_length-le}
use Rattle.alma_ir.specs.Tree as tree
use Rattle.alma_ir.specs.View.{stmts_list, arms_list, test_of}
use Rattle.alma_lower_work.specs.Front.{around}
use Rattle.alma_lower_parts.proofs.GuardForms.{no_arms_put, arms_put}
use Rattle.alma_lower_parts.proofs.Said.{said, arms_is, drop_one}
use Rattle.alma_lower_parts.proofs.Rows.{guarded_is}
use Rattle.alma_lower_emit.proofs.guarded.emit_arms.Goals as goal

pub loop-i-init : goal.loop-i-init
loop-i-init g c = λ e h. h

pub loop-i-preserved : goal.loop-i-preserved
loop-i-preserved g c =
    let l = c.loop-i in
    let x = c.index-arms-i.result in
    let one : arms_list (drop l.i c.args.arms.now) ≡ tree.more_arms (test_of x.cond) (stmts_list x.body.items)
    (arms_list (drop (l.i + 1) c.args.arms.now)) =
    ap arms_list (drop_one c.args.arms.now l.i x (omega (arith, c.loop-i-test.true)) c.index-arms-i.is) in
    λ e h. l.invariant e (arms_is (around c.args.scene.now) c.args.line c.args.exit _ _ _ _ (sym one)
    (arms_put (around c.args.scene.now) c.args.line _ _ _ _ _ _ _ _
    (guarded_is (around c.args.scene.now) c.args.line _ _ _ _ _ (ap stmts_list c.deref.ensures.value)
    (said c.emit_guarded-done.result c.in_ok-then_add.ensures.done c.emit_guarded-done.ensures.puts)) c.in_ok-then_add.ensures.codes h))

pub returns : goal.returns
returns g c = record {
  puts = c.loop-i.invariant _
      (arms_is (around c.args.scene.now) c.args.line _ _ _ _ _
      (ap arms_list (sym (drop_of_length-le c.args.arms.now (omega (arith, c.loop-i-test.false)))))
      (no_arms_put (around c.args.scene.now) c.args.line _ _));
}
