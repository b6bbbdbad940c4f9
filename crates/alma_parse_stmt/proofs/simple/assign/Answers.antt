use Rattle.std.proofs.Common.{◌∷◌, refl, ap}
use Rattle.alma_tree.specs.declared.kind.Kind.TheVariants as kinds
use Rattle.alma_tree.specs.Spelling.{spell_desig, spell_stmt}
use Rattle.alma_tree.specs.View.{view_desig}
use Rattle.alma_tree.specs.Numbers.{token, node, ◌>>◌, number_stmt, number_expr}
use Rattle.alma_tree.specs.Numbers.{number_desig}
use Rattle.alma_tree.proofs.Rows as rows
use Rattle.alma_tree.proofs.NumberRows as numbers
use Rattle.alma_parse_cursor.proofs.Joins.{ended}
use Rattle.alma_parse_cursor.proofs.Steps.{passed, first}
use Rattle.alma_parse_expr.proofs.Stopped.{stopped}
use Rattle.alma_parse_expr.proofs.Made.{made_extends}
use Rattle.alma_parse_expr.proofs.Values.{a_stmt, an_expr}
use Rattle.alma_tree.specs.declared.phrase.Stmt as dt
use Rattle.alma_parse_expr.proofs.Fronts.{part, both}
use Rattle.alma_parse_stmt.proofs.simple.assign.Goals as goal

pub returns-in_err-at : goal.returns-in_err-at
returns-in_err-at g c = record { read = stopped _ _ _ _ c.from_residual.ensures.1 (first (c.in_err-at.ensures.passes _)) }

pub returns : goal.returns
returns g c = record {
  read = made_extends (λ v ks. kinds.Assign ∷ an_expr v.0 ks) (λ v. token >> number_expr v.0 >> node v.1) a_stmt
      number_stmt (spell_desig (view_desig c.args.target)) (number_desig c.args.target) _ _ _ (λ v. dt.Assign v.1 c.args.target v.0)
      (λ v. ap spell_stmt (rows.assign_laid v.1 c.args.target v.0)) (λ v. numbers.assign_laid v.1 c.args.target v.0) c.numbered.result _
      c.assign_of.ensures.made (both (λ v. an_expr v.0) (λ v. number_expr v.0 >> node v.1)
      (part (passed refl refl c.in_ok-at.ensures.passes))
      _ _ c.numbered.result (ended an_expr number_expr _ _ _ _ c.expr.result c.numbered.result c.numbered.ensures.numbered
      c.expr.ensures.read));
}
