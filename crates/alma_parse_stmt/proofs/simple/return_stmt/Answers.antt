use Rattle.std.proofs.Common.{refl, ap}
use Rattle.alma_tree.specs.Spelling.{spell_stmt}
use Rattle.alma_tree.specs.Spelling.{spell_returned}
use Rattle.alma_tree.specs.View.{returned_of}
use Rattle.alma_tree.specs.Numbers.{node, ◌>>◌, number_stmt}
use Rattle.alma_tree.specs.Numbers.{numbers_of_returned}
use Rattle.alma_tree.proofs.Rows as rows
use Rattle.alma_tree.proofs.NumberRows as numbers
use Rattle.alma_parse_cursor.proofs.Joins.{ended}
use Rattle.alma_parse_cursor.proofs.Steps.{passed, first}
use Rattle.alma_parse_expr.proofs.Stopped.{stopped}
use Rattle.alma_parse_expr.proofs.Values.{a_stmt}
use Rattle.alma_parse_expr.proofs.Fronts.{part, whole}
use Rattle.alma_parse_stmt.proofs.simple.return_stmt.Goals as goal

pub returns-in_err-at : goal.returns-in_err-at
returns-in_err-at g c = record { read = stopped _ _ _ _ c.from_residual.ensures.1 (first (c.in_err-at.ensures.passes _)) }

pub returns : goal.returns
returns g c = record {
  read = whole (λ v. spell_returned (returned_of v.0)) (λ v. numbers_of_returned v.0 >> node v.1) a_stmt number_stmt
      (part (passed refl refl c.in_ok-at.ensures.passes)) _ _ _ (λ v. ap spell_stmt (rows.return_laid v.1 v.0))
      (λ v. numbers.return_laid v.1 v.0) c.numbered.result _ c.return_of.ensures.made
      (ended (λ v. spell_returned (returned_of v)) numbers_of_returned _ _ _ _ c.returned.result c.numbered.result
      c.numbered.ensures.numbered
      c.returned.ensures.read);
}
