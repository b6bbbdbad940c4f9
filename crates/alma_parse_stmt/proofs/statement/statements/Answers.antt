use Rattle.std.proofs.Common.{Ok, Err, refl}
use Rattle.alma_tree.specs.Numbers.{node, ◌>>◌, number_stmts, number_stmt}
use Rattle.alma_parse_cursor.proofs.Joins.{ended}
use Rattle.alma_parse_cursor.proofs.Steps.{first}
use Rattle.alma_parse_expr.proofs.Stopped.{stopped}
use Rattle.alma_parse_expr.proofs.Chain.{in_box}
use Rattle.alma_parse_expr.proofs.Values.{a_stmt, some_stmts, more_stmts, count_stmts}
use Rattle.alma_parse_expr.proofs.Fronts.{part, whole}
use Rattle.alma_parse_stmt.proofs.statement.statements.Goals as goal

pub returns-in_err-first : goal.returns-in_err-first
returns-in_err-first g c = record {
  read =
      stopped _ _ _ _ c.from_residual.ensures.1
      (first (in_box a_stmt number_stmt _ _ _ _ c.stmt.result (Err _) c.in_err-first.ensures.boxed c.stmt.ensures.read));
}

pub returns : goal.returns
returns g c = record {
  read = whole (λ v. more_stmts v.0) (λ v. count_stmts v.0 >> node v.1) some_stmts number_stmts
      (part (in_box a_stmt number_stmt _ _ _ _ c.stmt.result (Ok _) c.in_ok-first.ensures.boxed c.stmt.ensures.read)) _ _
      (λ v. record { node = v.1; first = c.in_ok-first.first; more = v.0 }) (λ v. refl) (λ v. refl) c.numbered.result _
      c.stmts_of.ensures.made (ended more_stmts count_stmts _ _ _ _ c.stmt_list.result c.numbered.result c.numbered.ensures.numbered
      c.stmt_list.ensures.read);
}
