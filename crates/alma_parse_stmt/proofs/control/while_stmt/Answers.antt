use Rattle.std.proofs.Common.{◌∷◌, Err, refl, ap}
use Rattle.alma_tree.specs.declared.kind.Kind.TheVariants as kinds
use Rattle.alma_tree.specs.Spelling.{spell_stmt}
use Rattle.alma_tree.specs.Numbers.{token, node, ◌>>◌, number_stmts, number_stmt, number_expr}
use Rattle.alma_tree.proofs.Rows as rows
use Rattle.alma_tree.proofs.NumberRows as numbers
use Rattle.alma_parse_cursor.proofs.Joins.{followed}
use Rattle.alma_parse_cursor.proofs.Steps.{opened, after, first}
use Rattle.alma_parse_expr.proofs.Stopped.{stopped}
use Rattle.alma_parse_expr.proofs.Chain.{plain, matching, ended_behind}
use Rattle.alma_parse_expr.proofs.Values.{a_stmt, an_expr, some_stmts}
use Rattle.alma_parse_expr.proofs.Fronts.{part, part_and, and_then, whole}
use Rattle.alma_parse_stmt.proofs.control.while_stmt.Goals as goal

pub returns-in_err-at : goal.returns-in_err-at
returns-in_err-at g c = record { read = stopped _ _ _ _ c.from_residual.ensures.1 (first c.in_err-at.ensures.opened) }

pub returns-in_err-test : goal.returns-in_err-test
returns-in_err-test g c = record {
  read = stopped _ _ _ _ c.from_residual-in_err-test.ensures.1 (after (opened refl
      c.in_ok-at.ensures.opened) (first (followed an_expr number_expr _ _ _ _ _ (plain kinds.Do _ refl refl) c.expr.result (Err _)
      c.in_err-test.ensures.followed c.expr.ensures.read)));
}

pub returns : goal.returns
returns g c = record {
  read = whole (λ v ks. some_stmts v.0 (kinds.End ∷ ks)) (λ v. number_stmts v.0 >> token >> node v.1) a_stmt
      number_stmt (and_then (part (opened refl c.in_ok-at.ensures.opened))
      (part_and an_expr number_expr kinds.Do _ _ _ _ _ (plain kinds.Do _ refl refl) c.expr.result _ c.in_ok-test.ensures.followed
      c.expr.ensures.read)) _ _ _ (λ v. ap spell_stmt (rows.while_laid v.1 c.in_ok-test.test v.0))
      (λ v. numbers.while_laid v.1 c.in_ok-test.test v.0) c.numbered.result _ c.while_of.ensures.made
      (ended_behind some_stmts number_stmts _ _ _ _ _ _ (matching kinds.End refl refl c.in_ok-at.ensures.opened) c.nested.result
      c.followed_by-2.result c.followed_by-2.ensures.followed c.nested.ensures.read c.numbered.result c.numbered.ensures.numbered);
}

pub open-requires : goal.open-requires
open-requires g c = record { opening = refl }
