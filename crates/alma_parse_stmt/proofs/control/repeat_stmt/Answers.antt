use Rattle.std.proofs.Common.{Err, refl, ap}
use Rattle.alma_tree.specs.declared.kind.Kind.TheVariants as kinds
use Rattle.alma_tree.specs.Spelling.{spell_stmt}
use Rattle.alma_tree.specs.Numbers.{node, ◌>>◌, number_stmts, number_stmt, number_expr}
use Rattle.alma_tree.proofs.Rows as rows
use Rattle.alma_tree.proofs.NumberRows as numbers
use Rattle.alma_parse_cursor.proofs.Joins.{followed, ended}
use Rattle.alma_parse_cursor.proofs.Steps.{opened, after, first}
use Rattle.alma_parse_expr.proofs.Stopped.{stopped}
use Rattle.alma_parse_expr.proofs.Chain.{matching}
use Rattle.alma_parse_expr.proofs.Values.{a_stmt, an_expr, some_stmts}
use Rattle.alma_parse_expr.proofs.Fronts.{part, part_and, and_then, whole}
use Rattle.alma_parse_stmt.proofs.control.repeat_stmt.Goals as goal

pub returns-in_err-at : goal.returns-in_err-at
returns-in_err-at g c = record { read = stopped _ _ _ _ c.from_residual.ensures.1 (first c.in_err-at.ensures.opened) }

pub returns-in_err-body : goal.returns-in_err-body
returns-in_err-body g c = record {
  read = stopped _ _ _ _ c.from_residual-in_err-body.ensures.1 (after (opened refl
      c.in_ok-at.ensures.opened) (first
      (followed some_stmts number_stmts _ _ _ _ _ (matching kinds.Until refl refl c.in_ok-at.ensures.opened)
      c.nested.result (Err _) c.in_err-body.ensures.followed c.nested.ensures.read)));
}

pub returns : goal.returns
returns g c = record {
  read = whole (λ v. an_expr v.0) (λ v. number_expr v.0 >> node v.1) a_stmt number_stmt
      (and_then (part (opened refl c.in_ok-at.ensures.opened))
      (part_and some_stmts number_stmts kinds.Until _ _ _ _ _ (matching kinds.Until refl refl c.in_ok-at.ensures.opened) c.nested.result _
      c.in_ok-body.ensures.followed c.nested.ensures.read)) _ _ _ (λ v. ap spell_stmt (rows.repeat_laid v.1 c.in_ok-body.body v.0))
      (λ v. numbers.repeat_laid v.1 c.in_ok-body.body v.0) c.numbered.result _ c.repeat_of.ensures.made
      (ended an_expr number_expr _ _ _ _ c.expr.result c.numbered.result c.numbered.ensures.numbered c.expr.ensures.read);
}

pub open-requires : goal.open-requires
open-requires g c = record { opening = refl }
