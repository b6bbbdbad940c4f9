use Rattle.std.proofs.Common.{refl}
use Rattle.alma_tree.specs.Numbers.{node, ◌>>◌, number_stmt, number_expr}
use Rattle.alma_parse_cursor.proofs.Joins.{ended}
use Rattle.alma_parse_expr.proofs.Made.{made_gives}
use Rattle.alma_parse_expr.proofs.Values.{a_stmt, an_expr}
use Rattle.alma_tree.specs.declared.phrase.Stmt as dt
use Rattle.alma_parse_stmt.proofs.simple.value_stmt.Goals as goal

pub returns : goal.returns
returns g c = record {
  read = made_gives (λ v. an_expr v.0) (λ v. number_expr v.0 >> node v.1) a_stmt number_stmt _ _ _ _
      (λ v. dt.Value v.1 v.0) (λ v. refl) (λ v. refl) c.numbered.result _ c.value_of.ensures.made
      (ended an_expr number_expr _ _ _ _ c.expr.result c.numbered.result c.numbered.ensures.numbered c.expr.ensures.read);
}
