use Rattle.std.proofs.Common.{◌≡◌, ◌∙◌, ◌+◌, ◌-◌, length, drop, sym, ap, arith, length-drop}
use Rattle.alma_ir.specs.Tree as tree
use Rattle.alma_ir.specs.View.{stmts_list, branches_list}
use Rattle.alma_lower_work.specs.Front.{around}
use Rattle.alma_lower_parts.proofs.StmtForms.{last_branch_put}
use Rattle.alma_lower_parts.proofs.Said.{on_ok, said, stmts_is, branches_is, drop_one, drop_last}
use Rattle.alma_lower_parts.proofs.Rows.{more_chosen, chosen_is}
use Rattle.alma_lower_emit.proofs.choice.emit_branches.Goals as goal

pub loop-i-init : goal.loop-i-init
loop-i-init g c = λ e h. h

pub loop-i-preserved : goal.loop-i-preserved
loop-i-preserved g c =
    let l = c.loop-i in
    let x = c.index-branches-i.result in
    let one : branches_list (drop l.i c.args.branches.now) ≡ tree.more_branches (stmts_list x.body.items)
    (branches_list (drop (l.i + 1) c.args.branches.now)) =
    ap branches_list (drop_one c.args.branches.now l.i x (omega (arith, c.loop-i-test.true)) c.index-branches-i.is) in
    λ e h. l.invariant e (branches_is (around c.args.scene.now) c.args.line c.args.exit _ _ _ _ (sym one)
    (more_chosen (around c.args.scene.now) c.args.line _ _ _ _ _ _ _
    (omega (arith, c.loop-i-test.true, length-drop (c.loop-i.i + 1) c.args.branches.now))
    (chosen_is (around c.args.scene.now) c.args.line _ _ _ _ (ap stmts_list c.deref.ensures.value)
    (said c.emit_chosen-done.result c.in_ok-then_add.ensures.done c.emit_chosen-done.ensures.puts)) c.in_ok-then_add.ensures.codes h))

pub returns : goal.returns
returns g c =
    let l = c.loop-i in
    let xs = c.args.branches.now in
    let at : l.i ≡ length xs - 1 = omega (arith, c.loop-i-test.false, c.loop-i.auto.i-end) in
    record {
      puts = λ two. on_ok c.emit_inside.result
          (λ h. l.invariant _ (branches_is (around c.args.scene.now) c.args.line c.args.exit _ _ _ _
          (sym (ap (λ n. branches_list (drop n xs)) at ∙ ap branches_list
          (drop_last xs (length xs - 1) c.index-branches-last.result (omega (arith, two)) c.index-branches-last.is)))
          (last_branch_put (around c.args.scene.now) c.args.line _ _ _ _
          (stmts_is (around c.args.scene.now) 0 _ _ _ _ (ap stmts_list c.deref-2.ensures.value) h)))) c.emit_inside.ensures.puts;
    }
