use Rattle.std.proofs.Common.{◌≤◌, length, ap, arith}
use Rattle.alma_ir.specs.View.{stmts_list}
use Rattle.alma_lower_work.specs.Front.{around}
use Rattle.alma_lower_parts.proofs.Said.{on_ok, from_both, said, stmts_is, some_elements, no_elements}
use Rattle.alma_lower_parts.proofs.Rows.{chosen_is, either_none, either_one, either_of}
use Rattle.alma_lower_emit.proofs.choice.emit_either.Goals as goal

pub returns-then-is_empty : goal.returns-then-is_empty
returns-then-is_empty g c = record {
  puts =
      on_ok c.add.result (either_none (around c.args.scene.now) c.args.line _ _ c.args.branches.now (no_elements _ c.if-is_empty.ensures))
      c.add.ensures;
}

pub returns-then-branches-eq1 : goal.returns-then-branches-eq1
returns-then-branches-eq1 g c = record {
  puts =
      on_ok c.emit_inside.result (λ h. either_one (around c.args.scene.now) c.args.line _ _ c.args.branches.now c.index-branches-0.result
      c.if-branches-eq1.true c.index-branches-0.is (stmts_is (around c.args.scene.now) 0 _ _ _ _ (ap stmts_list c.deref.ensures.value) h))
      c.emit_inside.ensures.puts;
}

pub returns : goal.returns
returns g c =
    let two : 2 ≤ length c.args.branches.now = omega (arith, some_elements _ c.if-is_empty.ensures, c.if-branches-eq1.false) in
    record {
      puts = from_both c.then_aim.result c.then_aim.ensures.done c.then_aim.ensures.aims
          (λ ok h. either_of (around c.args.scene.now) c.args.line _ _ _ _ _ _ c.args.branches.now c.index-branches-0.result two
          c.index-branches-0.is
          (chosen_is (around c.args.scene.now) c.args.line _ _ _ _ (ap stmts_list c.deref-2.ensures.value)
          (said c.emit_chosen-done.result c.in_ok-exit.ensures.done c.emit_chosen-done.ensures.puts)) c.in_ok-exit.ensures.address
          c.in_ok-exit.ensures.codes (said c.emit_branches-done.result ok (c.emit_branches-done.ensures.puts two)) h);
    }
