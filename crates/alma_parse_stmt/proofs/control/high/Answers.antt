use Rattle.std.proofs.Common.{Some, refl}
use Rattle.alma_tree.specs.Spelling.{spell_high}
use Rattle.alma_tree.specs.View.{high_of}
use Rattle.alma_tree.specs.Numbers.{number_expr, numbers_of_high}
use Rattle.alma_parse_cursor.proofs.Steps.{passed, skipped}
use Rattle.alma_parse_expr.proofs.Made.{becoming_gives}
use Rattle.alma_parse_expr.proofs.Heads as heads
use Rattle.alma_parse_expr.proofs.Values.{an_expr}
use Rattle.alma_parse_expr.proofs.Fronts.{part, whole}
use Rattle.alma_parse_stmt.proofs.control.high.Goals as goal

pub returns-in_default : goal.returns-in_default
returns-in_default g c = record { read = skipped (heads.skips_high _ c.in_default.ensures.passes) }

pub returns : goal.returns
returns g c = record {
  read = becoming_gives (λ v. spell_high (high_of v)) numbers_of_high _ _ _ _ _
      (heads.begins_high c.in-Some.ensures.passes) c.present.result
      (whole an_expr number_expr (λ v. spell_high (high_of v)) numbers_of_high (part (passed refl refl c.in-Some.ensures.passes)) _ _
      (λ v. Some v) (λ v. refl) (λ v. refl) c.expr.result _ c.present.ensures.made c.expr.ensures.read);
}
