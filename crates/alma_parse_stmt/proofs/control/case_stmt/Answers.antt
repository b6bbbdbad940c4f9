use Rattle.std.proofs.Common.{◌∷◌, Ok, Err, refl, ap}
use Rattle.alma_tree.specs.declared.kind.Kind.TheVariants as kinds
use Rattle.alma_tree.specs.Spelling.{spell_stmt, spell_else}
use Rattle.alma_tree.specs.View.{else_of}
use Rattle.alma_tree.specs.Numbers.{token, node, ◌>>◌, number_stmt, number_arm, number_expr, numbers_of_else}
use Rattle.alma_tree.proofs.Rows as rows
use Rattle.alma_tree.proofs.NumberRows as numbers
use Rattle.alma_parse_cursor.proofs.Joins.{followed}
use Rattle.alma_parse_cursor.proofs.Steps.{opened, after, first}
use Rattle.alma_parse_expr.proofs.Stopped.{stopped}
use Rattle.alma_parse_expr.proofs.Chain.{plain, matching, ended_behind, in_box}
use Rattle.alma_parse_expr.proofs.Values.{a_stmt, an_arm, an_expr}
use Rattle.alma_parse_expr.proofs.Fronts.{part, part_and, and_then, whole}
use Rattle.alma_parse_stmt.proofs.control.case_stmt.Goals as goal

pub returns-in_err-at : goal.returns-in_err-at
returns-in_err-at g c = record { read = stopped _ _ _ _ c.from_residual.ensures.1 (first c.in_err-at.ensures.opened) }

pub returns-in_err-value : goal.returns-in_err-value
returns-in_err-value g c = record {
  read = stopped _ _ _ _ c.from_residual-in_err-value.ensures.1 (after (opened refl
      c.in_ok-at.ensures.opened) (first (followed an_expr number_expr _ _ _ _ _ (plain kinds.Of _ refl refl) c.expr.result (Err _)
      c.in_err-value.ensures.followed c.expr.ensures.read)));
}

pub returns-in_err-first : goal.returns-in_err-first
returns-in_err-first g c = record {
  read = stopped _ _ _ _ c.from_residual-in_err-first.ensures.1 (after (opened refl
      c.in_ok-at.ensures.opened) (after (followed an_expr number_expr _ _ _ _ _ (plain kinds.Of _ refl refl) c.expr.result (Ok _)
      c.in_ok-value.ensures.followed c.expr.ensures.read)
      (first (in_box an_arm number_arm _ _ _ _ c.arm.result (Err _) c.in_err-first.ensures.boxed c.arm.ensures.read))));
}

pub returns-in_err-more : goal.returns-in_err-more
returns-in_err-more g c = record {
  read = stopped _ _ _ _ c.from_residual-in_err-more.ensures.1 (after (opened refl
      c.in_ok-at.ensures.opened) (after (followed an_expr number_expr _ _ _ _ _ (plain kinds.Of _ refl refl) c.expr.result (Ok _)
      c.in_ok-value.ensures.followed c.expr.ensures.read)
      (after (in_box an_arm number_arm _ _ _ _ c.arm.result (Ok _) c.in_ok-first.ensures.boxed c.arm.ensures.read)
      (first c.in_err-more.ensures.read))));
}

pub returns : goal.returns
returns g c = record {
  read = whole (λ v ks. spell_else (else_of v.0) (kinds.End ∷ ks)) (λ v. numbers_of_else v.0 >> token >> node v.1)
      a_stmt number_stmt (and_then (part (opened refl c.in_ok-at.ensures.opened))
      (and_then (part_and an_expr number_expr kinds.Of _ _ _ _ _ (plain kinds.Of _ refl refl) c.expr.result _ c.in_ok-value.ensures.followed
      c.expr.ensures.read) (and_then
      (part (in_box an_arm number_arm _ _ _ _ c.arm.result (Ok _) c.in_ok-first.ensures.boxed c.arm.ensures.read))
      (part c.in_ok-more.ensures.read)))) _ _ _
      (λ v. ap spell_stmt (rows.case_laid v.1 c.in_ok-value.value c.in_ok-first.first c.in_ok-more.more v.0))
      (λ v. numbers.case_laid v.1 c.in_ok-value.value c.in_ok-first.first c.in_ok-more.more v.0) c.numbered.result _ c.case_of.ensures.made
      (ended_behind (λ v. spell_else (else_of v)) numbers_of_else _ _ _ _ _ _ (matching kinds.End refl refl c.in_ok-at.ensures.opened)
      c.otherwise.result c.followed_by-otherwise.result c.followed_by-otherwise.ensures.followed c.otherwise.ensures.read c.numbered.result
      c.numbered.ensures.numbered);
}

pub open-requires : goal.open-requires
open-requires g c = record { opening = refl }
