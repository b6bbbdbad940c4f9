use Rattle.std.proofs.Common.{Some, refl}
use Rattle.alma_tree.specs.Spelling.{spell_returned}
use Rattle.alma_tree.specs.View.{returned_of}
use Rattle.alma_tree.specs.Numbers.{number_expr}
use Rattle.alma_tree.specs.Numbers.{numbers_of_returned}
use Rattle.alma_parse_cursor.proofs.Steps.{skipped}
use Rattle.alma_parse_expr.proofs.Made.{made_gives, becoming_gives}
use Rattle.alma_parse_expr.proofs.Values.{an_expr}
use Rattle.alma_parse_stmt.proofs.simple.returned.Goals as goal

pub returns-then-begins_expr : goal.returns-then-begins_expr
returns-then-begins_expr g c = record {
  read =
      becoming_gives (λ v. spell_returned (returned_of v)) numbers_of_returned _ _ _ _ _
      (rw c.if-begins_expr.true at c.begins_expr.ensures.value) c.present.result
      (made_gives an_expr number_expr (λ v. spell_returned (returned_of v)) numbers_of_returned _ _ _ _ (λ v. Some v) (λ v. refl)
      (λ v. refl)
      c.expr.result _ c.present.ensures.made c.expr.ensures.read);
}

pub returns : goal.returns
returns g c = record { read = skipped (rw c.if-begins_expr.false at c.begins_expr.ensures.value) }
