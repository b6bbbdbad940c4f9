use Rattle.std.proofs.Common.{◌∷◌, Err, refl, ap}
use Rattle.alma_tree.specs.declared.kind.Kind.TheVariants as kinds
use Rattle.alma_tree.specs.Spelling.{spell_stmt, spell_by}
use Rattle.alma_tree.specs.View.{by_of}
use Rattle.alma_tree.specs.Numbers.{token, node, ◌>>◌, number_stmts, number_stmt, number_expr, numbers_of_by}
use Rattle.alma_tree.proofs.Rows as rows
use Rattle.alma_tree.proofs.NumberRows as numbers
use Rattle.alma_parse_cursor.proofs.Joins.{followed}
use Rattle.alma_parse_cursor.proofs.Steps.{first}
use Rattle.alma_parse_expr.proofs.Stopped.{stopped}
use Rattle.alma_parse_expr.proofs.Chain.{plain, matching, ended_behind}
use Rattle.alma_parse_expr.proofs.Values.{a_stmt, an_expr, some_stmts}
use Rattle.alma_parse_expr.proofs.Fronts.{part, part_and, and_then, whole}
use Rattle.alma_parse_stmt.proofs.LoopFronts.{loop_front}
use Rattle.alma_parse_stmt.proofs.control.for_stmt.Goals as goal

pub returns-in_err-variable : goal.returns-in_err-variable
returns-in_err-variable g c = record { read = stopped _ _ _ _ c.from_residual.ensures.1 (first c.in_err-variable.ensures.begins) }

pub returns-in_err-from : goal.returns-in_err-from
returns-in_err-from g c = record {
  read =
      stopped _ _ _ _ c.from_residual-in_err-from.ensures.1
      ((loop_front refl c.in_ok-variable.ensures.begins).fails _ _
      (first (followed an_expr number_expr _ _ _ _ _ (plain kinds.To _ refl refl) c.expr.result (Err _) c.in_err-from.ensures.followed
      c.expr.ensures.read)));
}

pub returns-in_err-to : goal.returns-in_err-to
returns-in_err-to g c = record {
  read = stopped _ _ _ _ c.from_residual-in_err-to.ensures.1
      ((and_then (loop_front refl c.in_ok-variable.ensures.begins)
      (part_and an_expr number_expr kinds.To _ _ _ _ _ (plain kinds.To _ refl refl) c.expr.result _ c.in_ok-from.ensures.followed
      c.expr.ensures.read)).fails _ _ (first c.in_err-to.ensures.read));
}

pub returns-in_err-by : goal.returns-in_err-by
returns-in_err-by g c = record {
  read = stopped _ _ _ _ c.from_residual-in_err-by.ensures.1
      ((and_then (loop_front refl c.in_ok-variable.ensures.begins)
      (and_then (part_and an_expr number_expr kinds.To _ _ _ _ _ (plain kinds.To _ refl refl) c.expr.result _ c.in_ok-from.ensures.followed
      c.expr.ensures.read) (part c.in_ok-to.ensures.read))).fails _ _
      (first (followed (λ v. spell_by (by_of v)) numbers_of_by _ _ _ _ _ (plain kinds.Do _ refl refl) c.step.result (Err _)
      c.in_err-by.ensures.followed c.step.ensures.read)));
}

pub returns : goal.returns
returns g c = record {
  read = whole (λ v ks. some_stmts v.0 (kinds.End ∷ ks)) (λ v. number_stmts v.0 >> token >> node v.1) a_stmt
      number_stmt (and_then (loop_front refl c.in_ok-variable.ensures.begins)
      (and_then (part_and an_expr number_expr kinds.To _ _ _ _ _ (plain kinds.To _ refl refl) c.expr.result _ c.in_ok-from.ensures.followed
      c.expr.ensures.read) (and_then (part c.in_ok-to.ensures.read)
      (part_and (λ v. spell_by (by_of v)) numbers_of_by kinds.Do _ _ _ _ _ (plain kinds.Do _ refl refl) c.step.result _
      c.in_ok-by.ensures.followed c.step.ensures.read)))) _ _ _
      (λ v. ap spell_stmt (rows.for_laid v.1 c.in_ok-variable.variable c.in_ok-from.from c.in_ok-to.to c.in_ok-by.by v.0))
      (λ v. numbers.for_laid v.1 c.in_ok-variable.variable c.in_ok-from.from c.in_ok-to.to c.in_ok-by.by v.0) c.numbered.result _
      c.for_of.ensures.made (ended_behind some_stmts number_stmts _ _ _ _ _ _
      (matching kinds.End refl refl c.in_ok-variable.ensures.begins.opens_first) c.nested.result c.followed_by-body.result
      c.followed_by-body.ensures.followed c.nested.ensures.read c.numbered.result c.numbered.ensures.numbered);
}

pub loop_head-requires : goal.loop_head-requires
loop_head-requires g c = record { opening = refl }
