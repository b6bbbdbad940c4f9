use Rattle.std.proofs.Common.{◌∷◌, refl}
use Rattle.alma_tree.specs.declared.kind.Kind.TheVariants as kinds
use Rattle.alma_tree.specs.Numbers.{token, node, ◌>>◌, number_stmt}
use Rattle.alma_tree.specs.Numbers.{number_exprs}
use Rattle.alma_parse_cursor.proofs.Steps.{passed, opened, first}
use Rattle.alma_parse_expr.proofs.Stopped.{stopped}
use Rattle.alma_parse_expr.proofs.Chain.{matching, ended_behind}
use Rattle.alma_parse_expr.proofs.Values.{a_stmt, some_exprs}
use Rattle.alma_tree.specs.declared.phrase.Stmt as dt
use Rattle.alma_parse_expr.proofs.Fronts.{part, and_then, whole}
use Rattle.alma_parse_stmt.proofs.simple.write_stmt.Goals as goal

pub returns-in_err-at : goal.returns-in_err-at
returns-in_err-at g c = record { read = stopped _ _ _ _ c.from_residual.ensures.1 (first c.in_err-at.ensures.opened) }

pub returns : goal.returns
returns g c = record {
  read = whole (λ v ks. some_exprs v.0 (kinds.CloseParen ∷ ks)) (λ v. number_exprs v.0 >> token >> node v.1) a_stmt
      number_stmt (and_then (part (passed refl refl c.in_ok-at.ensures.opened.passes))
      (part (opened refl c.in_ok-at.ensures.opened.opens_behind))) _ _ (λ v. dt.Write v.1 v.0) (λ v. refl) (λ v. refl) c.numbered.result _
      c.write_of.ensures.made (ended_behind some_exprs number_exprs _ _ _ _ _ _
      (matching kinds.CloseParen refl refl c.in_ok-at.ensures.opened.opens_behind) c.exprs.result c.followed_by-items.result
      c.followed_by-items.ensures.followed c.exprs.ensures.read c.numbered.result c.numbered.ensures.numbered);
}

pub open_after-requires : goal.open_after-requires
open_after-requires g c = record { plain = refl; still = refl; opening = refl }
