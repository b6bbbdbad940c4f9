use Rattle.std.proofs.Common.{Some, refl}
use Rattle.alma_tree.specs.Spelling.{spell_by}
use Rattle.alma_tree.specs.View.{by_of}
use Rattle.alma_tree.specs.Numbers.{number_expr, numbers_of_by}
use Rattle.alma_parse_cursor.proofs.Steps.{passed, skipped}
use Rattle.alma_parse_expr.proofs.Made.{becoming_gives}
use Rattle.alma_parse_expr.proofs.Heads as heads
use Rattle.alma_parse_expr.proofs.Values.{an_expr}
use Rattle.alma_parse_expr.proofs.Fronts.{part, whole}
use Rattle.alma_parse_stmt.proofs.control.step.Goals as goal

pub returns-in_default : goal.returns-in_default
returns-in_default g c = record { read = skipped (heads.skips_by _ c.in_default.ensures.passes) }

pub returns : goal.returns
returns g c = record {
  read = becoming_gives (λ v. spell_by (by_of v)) numbers_of_by _ _ _ _ _ (heads.begins_by c.in-Some.ensures.passes)
      c.present.result (whole an_expr number_expr (λ v. spell_by (by_of v)) numbers_of_by (part (passed refl refl c.in-Some.ensures.passes))
      _
      _ (λ v. Some v) (λ v. refl) (λ v. refl) c.expr.result _ c.present.ensures.made c.expr.ensures.read);
}
