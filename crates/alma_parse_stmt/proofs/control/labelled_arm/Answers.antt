use Rattle.std.proofs.Common.{Err, refl, ap}
use Rattle.alma_tree.specs.declared.kind.Kind.TheVariants as kinds
use Rattle.alma_tree.specs.Spelling.{spell_arm}
use Rattle.alma_tree.specs.Numbers.{node, ◌>>◌, number_stmts, number_arm}
use Rattle.alma_tree.proofs.Rows as rows
use Rattle.alma_tree.proofs.NumberRows as numbers
use Rattle.alma_parse_cursor.proofs.Joins.{followed, ended}
use Rattle.alma_parse_cursor.proofs.Steps.{after, first}
use Rattle.alma_parse_expr.proofs.Stopped.{stopped}
use Rattle.alma_parse_expr.proofs.Chain.{plain}
use Rattle.alma_parse_expr.proofs.Values.{an_arm, some_stmts, more_labels, count_labels}
use Rattle.alma_parse_expr.proofs.Fronts.{part, part_and, and_then, whole}
use Rattle.alma_parse_stmt.proofs.control.labelled_arm.Goals as goal

pub returns-in_err-first : goal.returns-in_err-first
returns-in_err-first g c = record { read = stopped _ _ _ _ c.from_residual.ensures.1 (first c.in_err-first.ensures.read) }

pub returns-in_err-more : goal.returns-in_err-more
returns-in_err-more g c = record {
  read = stopped _ _ _ _ c.from_residual-in_err-more.ensures.1 (after
      c.in_ok-first.ensures.read (first
      (followed more_labels count_labels _ _ _ _ _ (plain kinds.Colon _ refl refl) c.label_list.result (Err _)
      c.in_err-more.ensures.followed c.label_list.ensures.read)));
}

pub returns : goal.returns
returns g c = record {
  read = whole (λ v. some_stmts v.0) (λ v. number_stmts v.0 >> node v.1) an_arm number_arm
      (and_then (part c.in_ok-first.ensures.read)
      (part_and more_labels count_labels kinds.Colon _ _ _ _ _ (plain kinds.Colon _ refl refl) c.label_list.result _
      c.in_ok-more.ensures.followed c.label_list.ensures.read)) _ _ _
      (λ v. ap spell_arm (rows.labelled_laid v.1 c.in_ok-first.first c.in_ok-more.more v.0))
      (λ v. numbers.labelled_laid v.1 c.in_ok-first.first c.in_ok-more.more v.0) c.numbered.result _ c.labelled_of.ensures.made
      (ended some_stmts number_stmts _ _ _ _ c.nested.result c.numbered.result c.numbered.ensures.numbered c.nested.ensures.read);
}
