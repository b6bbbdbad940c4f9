use Rattle.std.proofs.Common.{◌≡◌, ◌∙◌, refl, sym, ap}
use Rattle.alma_ir.specs.Tree as tree
use Rattle.alma_ir.specs.View.{stmts_list, stmt_of, arms_list, cases_list, branches_list, loop_of, test_of, expr_of, desig_of, else_option}
use Rattle.alma_ir.specs.View.{return_option}
use Rattle.alma_ir.proofs.Views
use Rattle.alma_lower_work.specs.Front.{around}
use Rattle.alma_lower_parts.proofs.StmtForms.{test_put, read_put, write_put}
use Rattle.alma_lower_parts.proofs.Said.{on_ok, stmt_as}
use Rattle.alma_lower_emit.proofs.Behind.{put_behind}
use Rattle.alma_lower_emit.proofs.statement.emit_stmt.Goals as goal

pub returns-in-Assign : goal.returns-in-Assign
returns-in-Assign g c =
    let view : stmt_of c.args.stmt.now ≡ tree.Assign (desig_of c.in-Assign.desig) (expr_of c.in-Assign.value) c.in-Assign.range =
    ap stmt_of c.in-Assign.is ∙ Views.assign_view _ _ _ in
    record { puts = stmt_as c.emit_assign.result (around c.args.scene.now) c.args.line _ _ _ _ view c.emit_assign.ensures.puts }

pub returns-in-CopyCells : goal.returns-in-CopyCells
returns-in-CopyCells g c =
    let view : stmt_of c.args.stmt.now ≡ tree.CopyCells (desig_of c.in-CopyCells.desig) (desig_of c.in-CopyCells.from) =
    ap stmt_of c.in-CopyCells.is ∙ Views.copycells_view _ _ in
    record { puts = stmt_as c.emit_copy.result (around c.args.scene.now) c.args.line _ _ _ _ view c.emit_copy.ensures.puts }

pub returns-in-If : goal.returns-in-If
returns-in-If g c =
    let view : stmt_of c.args.stmt.now ≡ tree.If (arms_list c.deref.result.now) (stmts_list c.deref-in-If.result.now) =
    ap stmt_of c.in-If.is ∙ Views.if_view _ _
    ∙ ap (λ x. tree.If (arms_list x) (stmts_list c.in-If.rest.items)) (sym c.deref.ensures.value)
    ∙ ap (λ x. tree.If (arms_list c.deref.result.now) (stmts_list x)) (sym c.deref-in-If.ensures.value) in
    record { puts = stmt_as c.emit_if.result (around c.args.scene.now) c.args.line _ _ _ _ view c.emit_if.ensures.puts }

pub returns-in-While : goal.returns-in-While
returns-in-While g c =
    let view : stmt_of c.args.stmt.now ≡ tree.While (test_of c.in-While.test) (stmts_list c.deref-in-While.result.now) =
    ap stmt_of c.in-While.is ∙ Views.while_view _ _
    ∙ ap (λ x. tree.While (test_of c.in-While.test) (stmts_list x)) (sym c.deref-in-While.ensures.value) in
    record { puts = stmt_as c.emit_while.result (around c.args.scene.now) c.args.line _ _ _ _ view c.emit_while.ensures.puts }

pub returns-in-Repeat : goal.returns-in-Repeat
returns-in-Repeat g c =
    let view : stmt_of c.args.stmt.now ≡ tree.Repeat (stmts_list c.deref-in-Repeat.result.now) (test_of c.in-Repeat.test) =
    ap stmt_of c.in-Repeat.is ∙ Views.repeat_view _ _
    ∙ ap (λ x. tree.Repeat (stmts_list x) (test_of c.in-Repeat.test)) (sym c.deref-in-Repeat.ensures.value) in
    record { puts = stmt_as c.emit_repeat.result (around c.args.scene.now) c.args.line _ _ _ _ view c.emit_repeat.ensures.puts }

pub returns-in-ForTo : goal.returns-in-ForTo
returns-in-ForTo g c =
    let view : stmt_of c.args.stmt.now ≡ tree.ForTo (loop_of c.in-ForTo.each) = ap stmt_of c.in-ForTo.is ∙ Views.forto_view _ in
    record { puts = stmt_as c.emit_for.result (around c.args.scene.now) c.args.line _ _ _ _ view c.emit_for.ensures.puts }

pub returns-in-SomeOf : goal.returns-in-SomeOf
returns-in-SomeOf g c =
    let view : stmt_of c.args.stmt.now ≡ tree.SomeOf (loop_of c.in-SomeOf.each) = ap stmt_of c.in-SomeOf.is ∙ Views.someof_view _ in
    record { puts = stmt_as c.emit_some.result (around c.args.scene.now) c.args.line _ _ _ _ view c.emit_some.ensures.puts }

pub returns-in-Case : goal.returns-in-Case
returns-in-Case g c =
    let view : stmt_of c.args.stmt.now ≡ tree.Case (expr_of c.in-Case.value) (cases_list c.deref-in-Case.result.now)
    (else_option c.in-Case.rest) = ap stmt_of c.in-Case.is ∙ Views.case_view _ _ _
    ∙ ap (λ x. tree.Case (expr_of c.in-Case.value) (cases_list x) (else_option c.in-Case.rest)) (sym c.deref-in-Case.ensures.value) in
    record { puts = stmt_as c.emit_case.result (around c.args.scene.now) c.args.line _ _ _ _ view c.emit_case.ensures.puts }

pub returns-in-Either : goal.returns-in-Either
returns-in-Either g c =
    let view : stmt_of c.args.stmt.now ≡ tree.Either (branches_list c.deref-in-Either.result.now) = ap stmt_of c.in-Either.is
    ∙ Views.either_view _ ∙ ap (λ x. tree.Either (branches_list x)) (sym c.deref-in-Either.ensures.value) in
    record { puts = stmt_as c.emit_either.result (around c.args.scene.now) c.args.line _ _ _ _ view c.emit_either.ensures.puts }

pub returns-in-Forall : goal.returns-in-Forall
returns-in-Forall g c =
    let view : stmt_of c.args.stmt.now ≡ tree.Forall (stmts_list c.deref-in-Forall.result.now) (stmts_list c.deref-in-Forall-2.result.now) =
    ap stmt_of c.in-Forall.is ∙ Views.forall_view _ _
    ∙ ap (λ x. tree.Forall (stmts_list x) (stmts_list c.in-Forall.second.items)) (sym c.deref-in-Forall.ensures.value)
    ∙ ap (λ x. tree.Forall (stmts_list c.deref-in-Forall.result.now) (stmts_list x)) (sym c.deref-in-Forall-2.ensures.value) in
    record { puts = stmt_as c.emit_forall.result (around c.args.scene.now) c.args.line _ _ _ _ view c.emit_forall.ensures.puts }

pub returns-in-Commit : goal.returns-in-Commit
returns-in-Commit g c =
    let view : stmt_of c.args.stmt.now ≡ tree.Commit (stmts_list c.deref-in-Commit.result.now) = ap stmt_of c.in-Commit.is
    ∙ Views.commit_view _ ∙ ap (λ x. tree.Commit (stmts_list x)) (sym c.deref-in-Commit.ensures.value) in
    record { puts = stmt_as c.emit_commit.result (around c.args.scene.now) c.args.line _ _ _ _ view c.emit_commit.ensures.puts }

pub returns-in-Return : goal.returns-in-Return
returns-in-Return g c =
    let view : stmt_of c.args.stmt.now ≡ tree.Return (return_option c.in-Return.value) = ap stmt_of c.in-Return.is ∙ Views.return_view _ in
    record { puts = stmt_as c.emit_return.result (around c.args.scene.now) c.args.line _ _ _ _ view c.emit_return.ensures.puts }

pub returns-in-Read : goal.returns-in-Read
returns-in-Read g c =
    let view : stmt_of c.args.stmt.now ≡ tree.Read (desig_of c.in-Read.desig) c.in-Read.how c.in-Read.range = ap stmt_of c.in-Read.is
    ∙ Views.read_view _ _ _ in
    record {
      puts = stmt_as c.read_of.result (around c.args.scene.now) c.args.line _ _ _ _ view
          (put_behind c.emit_held-place.result c.read_of.result c.emit_held-place.ensures.puts c.emit_held-place.ensures.place
          c.read_of.ensures.done c.read_of.ensures.codes
          (λ at puts is h. read_put (around c.args.scene.now) c.args.line _ _ _ _ _ _ _ _ puts is refl h));
    }

pub returns-in-WriteExpr : goal.returns-in-WriteExpr
returns-in-WriteExpr g c =
    let view : stmt_of c.args.stmt.now ≡ tree.WriteExpr (expr_of c.in-WriteExpr.value) c.in-WriteExpr.how = ap stmt_of c.in-WriteExpr.is
    ∙ Views.writeexpr_view _ _ in
    record {
      puts = stmt_as c.write_of.result (around c.args.scene.now) c.args.line _ _ _ _ view
          (put_behind c.emit_value-number.result c.write_of.result c.emit_value-number.ensures.puts c.emit_value-number.ensures.value
          c.write_of.ensures.done c.write_of.ensures.codes
          (λ at puts is h. write_put (around c.args.scene.now) c.args.line _ _ _ _ _ _ puts is h));
    }

pub returns-in-WriteText : goal.returns-in-WriteText
returns-in-WriteText g c =
    let view : stmt_of c.args.stmt.now ≡ tree.WriteText (c.deref-in-WriteText.result.now) = ap stmt_of c.in-WriteText.is
    ∙ Views.writetext_view _ ∙ ap (λ x. tree.WriteText x) (sym c.deref-in-WriteText.ensures.value) in
    record { puts = stmt_as c.emit_text.result (around c.args.scene.now) c.args.line _ _ _ _ view c.emit_text.ensures.puts }

pub returns-in-WriteLine : goal.returns-in-WriteLine
returns-in-WriteLine g c =
    let view : stmt_of c.args.stmt.now ≡ tree.WriteLine = ap stmt_of c.in-WriteLine.is ∙ Views.writeline_view in
    record { puts = stmt_as c.emit_line.result (around c.args.scene.now) c.args.line _ _ _ _ view c.emit_line.ensures.puts }

pub returns-in-Test : goal.returns-in-Test
returns-in-Test g c =
    let view : stmt_of c.args.stmt.now ≡ tree.TestStmt (test_of c.in-Test.test) = ap stmt_of c.in-Test.is ∙ Views.teststmt_view _ in
    record {
      puts = stmt_as c.emit_test.result (around c.args.scene.now) c.args.line _ _ _ _ view
          (on_ok c.emit_test.result (test_put (around c.args.scene.now) c.args.line _ _ _) c.emit_test.ensures.puts);
    }
