use Rattle.std.proofs.Common.{Some, refl}
use Rattle.alma_tree.specs.Spelling.{spell_else}
use Rattle.alma_tree.specs.View.{else_of}
use Rattle.alma_tree.specs.Numbers.{number_stmts, numbers_of_else}
use Rattle.alma_parse_cursor.proofs.Steps.{passed, skipped}
use Rattle.alma_parse_expr.proofs.Made.{becoming_gives}
use Rattle.alma_parse_expr.proofs.Heads as heads
use Rattle.alma_parse_expr.proofs.Values.{some_stmts}
use Rattle.alma_parse_expr.proofs.Fronts.{part, whole}
use Rattle.alma_parse_stmt.proofs.control.otherwise.Goals as goal

pub returns-in_default : goal.returns-in_default
returns-in_default g c = record { read = skipped (heads.skips_else _ c.in_default.ensures.passes) }

pub returns : goal.returns
returns g c = record {
  read = becoming_gives (λ v. spell_else (else_of v)) numbers_of_else _ _ _ _ _
      (heads.begins_else c.in-Some.ensures.passes) c.present.result
      (whole some_stmts number_stmts (λ v. spell_else (else_of v)) numbers_of_else (part (passed refl refl c.in-Some.ensures.passes)) _ _
      (λ v. Some v) (λ v. refl) (λ v. refl) c.nested.result _ c.present.ensures.made c.nested.ensures.read);
}
