use Rattle.std.proofs.Common.{◌∷◌, refl, ap}
use Rattle.alma_tree.specs.declared.kind.Kind.TheVariants as kinds
use Rattle.alma_tree.specs.Spelling.{spell_stmt}
use Rattle.alma_tree.specs.Numbers.{token, node, ◌>>◌, number_stmts, number_stmt}
use Rattle.alma_tree.proofs.Rows as rows
use Rattle.alma_tree.proofs.NumberRows as numbers
use Rattle.alma_parse_cursor.proofs.Steps.{opened, first}
use Rattle.alma_parse_expr.proofs.Stopped.{stopped}
use Rattle.alma_parse_expr.proofs.Chain.{matching, ended_behind}
use Rattle.alma_parse_expr.proofs.Values.{a_stmt, some_stmts}
use Rattle.alma_parse_expr.proofs.Fronts.{part, whole}
use Rattle.alma_parse_stmt.proofs.statement.commit_stmt.Goals as goal

pub returns-in_err-at : goal.returns-in_err-at
returns-in_err-at g c = record { read = stopped _ _ _ _ c.from_residual.ensures.1 (first c.in_err-at.ensures.opened) }

pub returns : goal.returns
returns g c = record {
  read = whole (λ v ks. some_stmts v.0 (kinds.End ∷ ks)) (λ v. number_stmts v.0 >> token >> node v.1) a_stmt
      number_stmt (part (opened refl c.in_ok-at.ensures.opened)) _ _ _ (λ v. ap spell_stmt (rows.commit_laid v.1 v.0))
      (λ v. numbers.commit_laid v.1 v.0) c.numbered.result _ c.commit_of.ensures.made
      (ended_behind some_stmts number_stmts _ _ _ _ _ _ (matching kinds.End refl refl c.in_ok-at.ensures.opened) c.nested.result
      c.followed_by.result c.followed_by.ensures.followed c.nested.ensures.read c.numbered.result c.numbered.ensures.numbered);
}

pub open-requires : goal.open-requires
open-requires g c = record { opening = refl }
