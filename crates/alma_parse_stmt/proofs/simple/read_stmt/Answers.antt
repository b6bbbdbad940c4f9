use Rattle.std.proofs.Common.{◌∷◌, refl, ap}
use Rattle.alma_tree.specs.declared.kind.Kind.TheVariants as kinds
use Rattle.alma_tree.specs.Spelling.{spell_stmt}
use Rattle.alma_tree.specs.Numbers.{token, node, ◌>>◌, number_stmt}
use Rattle.alma_tree.proofs.Rows as rows
use Rattle.alma_tree.proofs.NumberRows as numbers
use Rattle.alma_parse_cursor.proofs.Steps.{passed, opened, first}
use Rattle.alma_parse_expr.proofs.Stopped.{stopped}
use Rattle.alma_parse_expr.proofs.Chain.{matching, ended_behind}
use Rattle.alma_parse_expr.proofs.Values.{a_stmt}
use Rattle.alma_parse_expr.proofs.Values.{more_desigs}
use Rattle.alma_parse_expr.proofs.Values.{count_desigs}
use Rattle.alma_parse_expr.proofs.Fronts.{part, and_then, whole}
use Rattle.alma_parse_stmt.proofs.simple.read_stmt.Goals as goal

pub returns-in_err-at : goal.returns-in_err-at
returns-in_err-at g c = record { read = stopped _ _ _ _ c.from_residual.ensures.1 (first c.in_err-at.ensures.opened) }

pub returns-in_err-first : goal.returns-in_err-first
returns-in_err-first g c = record {
  read =
      stopped _ _ _ _ c.from_residual-in_err-first.ensures.1
      ((and_then (part (passed refl refl c.in_ok-at.ensures.opened.passes))
      (part (opened refl c.in_ok-at.ensures.opened.opens_behind))).fails
      _ _ (first c.in_err-first.ensures.read));
}

pub returns : goal.returns
returns g c = record {
  read = whole (λ v ks. more_desigs v.0 (kinds.CloseParen ∷ ks)) (λ v. count_desigs v.0 >> token >> node v.1) a_stmt
      number_stmt (and_then (part (passed refl refl c.in_ok-at.ensures.opened.passes))
      (and_then (part (opened refl c.in_ok-at.ensures.opened.opens_behind)) (part c.in_ok-first.ensures.read))) _ _ _
      (λ v. ap spell_stmt (rows.read_laid v.1 c.in_ok-first.first v.0)) (λ v. numbers.read_laid v.1 c.in_ok-first.first v.0)
      c.numbered.result
      _ c.read_of.ensures.made (ended_behind more_desigs count_desigs _ _ _ _ _ _
      (matching kinds.CloseParen refl refl c.in_ok-at.ensures.opened.opens_behind) c.desig_list.result c.followed_by-more.result
      c.followed_by-more.ensures.followed c.desig_list.ensures.read c.numbered.result c.numbered.ensures.numbered);
}

pub open_after-requires : goal.open_after-requires
open_after-requires g c = record { plain = refl; still = refl; opening = refl }
