use Rattle.std.proofs.Common.{◌∷◌}
use Rattle.alma_tree.specs.Spelling.{spell_arm}
use Rattle.alma_tree.specs.View.{view_arm}
use Rattle.alma_tree.specs.Numbers.{number_arm}
use Rattle.alma_grammar.specs.Parts.{arm_part}
use Rattle.alma_parse_cursor.specs.Forms as forms
use Rattle.alma_parse_cursor.proofs.Steps.{instead, instead_any}
use Rattle.alma_parse_expr.proofs.Values.{an_arm}
use Rattle.alma_parse_stmt.proofs.control.arm.Goals as goal

pub returns-then-begins_expr : goal.returns-then-begins_expr
returns-then-begins_expr g c = record {
  read = instead c.labelled_arm.result (λ v. spell_arm (view_arm v)) number_arm (λ o. arm_part ∷
      o) forms.labelled_parts c.args.depth _ (rw c.if-begins_expr.true at c.begins_expr.ensures.arm) c.labelled_arm.ensures.read;
}

pub returns : goal.returns
returns g c = record {
  read = instead_any c.empty_arm.result an_arm number_arm (λ o. arm_part ∷ o) (λ o. o) c.args.depth _
      (rw c.if-begins_expr.false at c.begins_expr.ensures.arm) c.empty_arm.ensures.read;
}
