use Rattle.std.proofs.Common.{◌≡◌, ap}
use Rattle.std.proofs.Common.{rules, to_z, of_z, w64}
use Rattle.std.proofs.lemmas.Int.{to_z-of_z}
use Rattle.alma_ir.specs.Tree as tree
use Rattle.alma_ir.specs.View.{stmts_list, expr_of, desig_of}
use Rattle.alma_lower_work.specs.Front.{around}
use Rattle.alma_lower_parts.proofs.Said.{from_both, said, stmt_is}
use Rattle.alma_lower_parts.proofs.Turns.{for_joined}
use Rattle.alma_lower_emit.proofs.loops.emit_for.Goals as goal

pub returns : goal.returns
returns g c =
    let each = c.args.each.now in
    let same : to_z w64 (of_z w64 each.by) ≡ each.by = to_z-of_z w64 each.by (search rules) in
    let bounds = c.in_ok-bounds.ensures in
    record {
      puts = from_both c.end_for.result c.end_for.ensures.done c.end_for.ensures.ends
          (λ ok e. stmt_is (around c.args.scene.now) c.args.line _ _ _ _
          (ap (λ b. tree.ForTo (tree.a_loop (desig_of each.var) each.range each.counter each.limit (expr_of each.from) (expr_of each.to) b
          (stmts_list each.body.items))) same)
          (for_joined (around c.args.scene.now) c.args.line _ _ _ _ _ _ _ _ _ _ _ _ _ _ _ _ _ _ _ _ _ _ _ _ _ _ bounds.counter
          bounds.limit bounds.constant c.position-before.ensures bounds.puts.passed bounds.puts.bounds c.position-after.ensures
          c.in_ok-jump.ensures.holes c.in_ok-jump.ensures.top c.go_to.ensures.code c.go_to.ensures.kinds c.go_to.ensures.next
          c.go_to.ensures.lines c.go_to.ensures.whole (said c.emit_turn-done.result ok c.emit_turn-done.ensures.puts) e.out_at e.codes
          e.aims));
    }
