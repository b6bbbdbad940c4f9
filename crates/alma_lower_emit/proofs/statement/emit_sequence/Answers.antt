use Rattle.std.proofs.Common.{◌≡◌, ◌+◌, drop, sym, ap, arith}
use Rattle.std.proofs.Math.ListN.{drop_of_length-le}
use Rattle.alma_ir.specs.Tree as tree
use Rattle.alma_ir.specs.View.{stmts_list, stmt_of}
use Rattle.alma_lower_work.specs.Front.{around}
use Rattle.alma_lower_parts.proofs.StmtForms.{no_stmts_put, stmts_put}
use Rattle.alma_lower_parts.proofs.Said.{stmts_is, drop_one}
use Rattle.alma_lower_emit.proofs.statement.emit_sequence.Goals as goal

pub loop-stmt-init : goal.loop-stmt-init
loop-stmt-init g c = λ e h. h

pub loop-stmt-preserved : goal.loop-stmt-preserved
loop-stmt-preserved g c =
    let l = c.loop-stmt in
    let one : stmts_list (drop l.stmt-index c.args.body.now) ≡ tree.more_stmts 0 (stmt_of c.stmt-item.result)
    (stmts_list (drop (l.stmt-index + 1) c.args.body.now)) =
    ap stmts_list (drop_one c.args.body.now l.stmt-index c.stmt-item.result c.loop-stmt-test.true c.stmt-item.is) in
    λ e h. l.invariant e (stmts_is (around c.args.scene.now) 0 _ _ _ _ (sym one)
    (stmts_put (around c.args.scene.now) _ _ _ _ _ _ _ c.next_line-line.ensures.line c.next_line-line.ensures.code
    c.next_line-line.ensures.kinds c.next_line-line.ensures.next c.next_line-line.ensures.lines c.next_line-line.ensures.whole
    c.in_ok-emit_stmt.ensures.puts h))

pub returns : goal.returns
returns g c = record {
  puts = c.loop-stmt.invariant _
      (stmts_is (around c.args.scene.now) 0 _ _ _ _
      (ap stmts_list (sym (drop_of_length-le c.args.body.now (omega (arith, c.loop-stmt-test.false)))))
      (no_stmts_put (around c.args.scene.now) _));
}
