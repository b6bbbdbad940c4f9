use Rattle.std.proofs.Common.{◌∷◌, refl}
use Rattle.alma_tree.specs.declared.kind.Kind.TheVariants as kinds
use Rattle.alma_tree.specs.Spelling.{spell_label}
use Rattle.alma_tree.specs.View.{view_label}
use Rattle.alma_tree.specs.Numbers.{number_label}
use Rattle.alma_grammar.specs.Parts.{one, label_parts}
use Rattle.alma_parse_cursor.proofs.Loops as loops
use Rattle.alma_parse_cursor.proofs.Steps.{passed}
use Rattle.alma_parse_expr.proofs.Stopped.{stopped}
use Rattle.alma_parse_expr.proofs.Heads as heads
use Rattle.alma_parse_expr.proofs.Lists as lists
use Rattle.alma_parse_expr.proofs.Fronts.{part, both, one_more, no_more}
use Rattle.alma_parse_stmt.proofs.control.label_list.Goals as goal

pub loop-after-init : goal.loop-after-init
loop-after-init g c = rw c.new-more.ensures.items loops.loops_start

pub loop-after-preserved : goal.loop-after-preserved
loop-after-preserved g c = one_more lists.labels (λ o. one kinds.Comma ∷ label_parts o) _ _ c.loop-after.invariant
    (heads.begins_labels c.in-Some.ensures.passes) c.label.result _ c.in_ok-at.ensures.pushed
    (both (λ v. spell_label (view_label v)) number_label (part (passed refl refl c.in-Some.ensures.passes)) _ _ c.label.result
    c.label.ensures.read)

pub returns : goal.returns
returns g c = record { read = loops.ended c.loop-after.invariant (heads.skips_labels _ c.in_default.ensures.passes) }

pub returns-in_err-at : goal.returns-in_err-at
returns-in_err-at g c = record {
  read = stopped _ _ _ _ c.from_residual.ensures.1
      (no_more lists.labels (λ o. one kinds.Comma ∷ label_parts o) _ _ c.loop-after.invariant (heads.begins_labels c.in-Some.ensures.passes)
      c.label.result _ c.in_err-at.ensures.pushed
      (both (λ v. spell_label (view_label v)) number_label (part (passed refl refl c.in-Some.ensures.passes)) _ _ c.label.result
      c.label.ensures.read));
}
