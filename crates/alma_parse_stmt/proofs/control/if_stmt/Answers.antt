use Rattle.std.proofs.Common.{◌∷◌, Ok, Err, refl, ap}
use Rattle.alma_tree.specs.declared.kind.Kind.TheVariants as kinds
use Rattle.alma_tree.specs.Spelling.{spell_stmt, spell_else}
use Rattle.alma_tree.specs.View.{else_of}
use Rattle.alma_tree.specs.Numbers.{token, node, ◌>>◌, number_stmt, number_expr, numbers_of_else}
use Rattle.alma_tree.proofs.Rows as rows
use Rattle.alma_tree.proofs.NumberRows as numbers
use Rattle.alma_parse_cursor.proofs.Joins.{followed}
use Rattle.alma_parse_cursor.proofs.Steps.{opened, after, first}
use Rattle.alma_parse_expr.proofs.Stopped.{stopped}
use Rattle.alma_parse_expr.proofs.Chain.{plain, matching, ended_behind}
use Rattle.alma_parse_expr.proofs.Values.{a_stmt, an_expr}
use Rattle.alma_parse_expr.proofs.Fronts.{part, part_and, and_then, whole}
use Rattle.alma_parse_stmt.proofs.control.if_stmt.Goals as goal

pub returns-in_err-at : goal.returns-in_err-at
returns-in_err-at g c = record { read = stopped _ _ _ _ c.from_residual.ensures.1 (first c.in_err-at.ensures.opened) }

pub returns-in_err-test : goal.returns-in_err-test
returns-in_err-test g c = record {
  read = stopped _ _ _ _ c.from_residual-in_err-test.ensures.1 (after (opened refl
      c.in_ok-at.ensures.opened) (first (followed an_expr number_expr _ _ _ _ _ (plain kinds.Then _ refl refl) c.expr.result (Err _)
      c.in_err-test.ensures.followed c.expr.ensures.read)));
}

pub returns-in_err-then : goal.returns-in_err-then
returns-in_err-then g c = record {
  read = stopped _ _ _ _ c.from_residual-in_err-then.ensures.1 (after (opened refl
      c.in_ok-at.ensures.opened) (after (followed an_expr number_expr _ _ _ _ _ (plain kinds.Then _ refl refl) c.expr.result (Ok _)
      c.in_ok-test.ensures.followed c.expr.ensures.read) (first c.in_err-then.ensures.read)));
}

pub returns-in_err-elsifs : goal.returns-in_err-elsifs
returns-in_err-elsifs g c = record {
  read = stopped _ _ _ _ c.from_residual-in_err-elsifs.ensures.1 (after (opened refl
      c.in_ok-at.ensures.opened) (after (followed an_expr number_expr _ _ _ _ _ (plain kinds.Then _ refl refl) c.expr.result (Ok _)
      c.in_ok-test.ensures.followed c.expr.ensures.read) (after c.in_ok-then.ensures.read (first c.in_err-elsifs.ensures.read))));
}

pub returns : goal.returns
returns g c = record {
  read = whole (λ v ks. spell_else (else_of v.0) (kinds.End ∷ ks)) (λ v. numbers_of_else v.0 >> token >> node v.1)
      a_stmt number_stmt (and_then (part (opened refl c.in_ok-at.ensures.opened))
      (and_then (part_and an_expr number_expr kinds.Then _ _ _ _ _ (plain kinds.Then _ refl refl) c.expr.result _
      c.in_ok-test.ensures.followed c.expr.ensures.read) (and_then (part c.in_ok-then.ensures.read) (part c.in_ok-elsifs.ensures.read)))) _
      _
      _ (λ v. ap spell_stmt (rows.if_laid v.1 c.in_ok-test.test c.in_ok-then.then c.in_ok-elsifs.elsifs v.0))
      (λ v. numbers.if_laid v.1 c.in_ok-test.test c.in_ok-then.then c.in_ok-elsifs.elsifs v.0) c.numbered.result _ c.if_of.ensures.made
      (ended_behind (λ v. spell_else (else_of v)) numbers_of_else _ _ _ _ _ _ (matching kinds.End refl refl c.in_ok-at.ensures.opened)
      c.otherwise.result c.followed_by-otherwise.result c.followed_by-otherwise.ensures.followed c.otherwise.ensures.read c.numbered.result
      c.numbered.ensures.numbered);
}

pub open-requires : goal.open-requires
open-requires g c = record { opening = refl }
