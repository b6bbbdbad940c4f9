use Rattle.std.proofs.Common.{ap}
use Rattle.alma_tree.specs.Spelling.{spell_label, spell_high}
use Rattle.alma_tree.specs.View.{high_of, view_label}
use Rattle.alma_tree.specs.Numbers.{node, ◌>>◌, numbers_of_high, number_label}
use Rattle.alma_tree.proofs.Rows as rows
use Rattle.alma_tree.proofs.NumberRows as numbers
use Rattle.alma_parse_cursor.proofs.Joins.{ended}
use Rattle.alma_parse_cursor.proofs.Steps.{first}
use Rattle.alma_parse_expr.proofs.Stopped.{stopped}
use Rattle.alma_parse_expr.proofs.Fronts.{part, whole}
use Rattle.alma_parse_stmt.proofs.control.label.Goals as goal

pub returns-in_err-low : goal.returns-in_err-low
returns-in_err-low g c = record { read = stopped _ _ _ _ c.from_residual.ensures.1 (first c.in_err-low.ensures.read) }

pub returns : goal.returns
returns g c = record {
  read = whole (λ v. spell_high (high_of v.0)) (λ v. numbers_of_high v.0 >> node v.1) (λ v. spell_label (view_label v))
      number_label (part c.in_ok-low.ensures.read) _ _ _
      (λ v. ap spell_label (rows.label_rolled (record { node = v.1; low = c.in_ok-low.low; high = v.0 })))
      (λ v. numbers.label_rolled (record { node = v.1; low = c.in_ok-low.low; high = v.0 })) c.numbered.result _ c.label_of.ensures.made
      (ended (λ v. spell_high (high_of v)) numbers_of_high _ _ _ _ c.high.result c.numbered.result c.numbered.ensures.numbered
      c.high.ensures.read);
}
