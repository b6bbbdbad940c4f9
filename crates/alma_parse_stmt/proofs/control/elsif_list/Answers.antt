use Rattle.std.proofs.Common.{◌∷◌, Err, refl}
use Rattle.alma_tree.specs.declared.kind.Kind.TheVariants as kinds
use Rattle.alma_tree.specs.Numbers.{number_stmts, number_expr}
use Rattle.alma_grammar.specs.Parts.{one, expr_parts, stmts_parts}
use Rattle.alma_parse_cursor.proofs.Joins.{followed}
use Rattle.alma_parse_cursor.proofs.Loops as loops
use Rattle.alma_parse_cursor.proofs.Steps.{passed, after, first}
use Rattle.alma_parse_expr.proofs.Stopped.{stopped}
use Rattle.alma_parse_expr.proofs.Chain.{plain}
use Rattle.alma_parse_expr.proofs.Heads as heads
use Rattle.alma_parse_expr.proofs.Lists as lists
use Rattle.alma_parse_expr.proofs.Values.{an_expr, some_stmts}
use Rattle.alma_parse_expr.proofs.Fronts.{part, part_and, and_then, whole, one_more, no_more}
use Rattle.alma_parse_stmt.proofs.control.elsif_list.Goals as goal

pub loop-after-init : goal.loop-after-init
loop-after-init g c = rw c.new-more.ensures.items loops.loops_start

pub loop-after-preserved : goal.loop-after-preserved
loop-after-preserved g c = one_more lists.elsifs (λ o. one kinds.Elsif ∷ expr_parts (one kinds.Then ∷ stmts_parts o)) _ _
    c.loop-after.invariant (heads.begins_elsifs c.in-Some.ensures.passes) c.elsif_of.result _ c.in_ok-at.ensures.pushed
    (whole some_stmts number_stmts lists.an_elsif lists.number_elsif
    (and_then (part (passed refl refl c.in-Some.ensures.passes))
    (part_and an_expr number_expr kinds.Then _ _ _ _ _ (plain kinds.Then _ refl refl) c.expr.result _ c.in_ok-test.ensures.followed
    c.expr.ensures.read)) _ _ _ (lists.elsif_spelled c.in_ok-test.test) (lists.elsif_numbered c.in_ok-test.test) c.nested.result _
    c.elsif_of.ensures.made c.nested.ensures.read)

pub returns-in_err-test : goal.returns-in_err-test
returns-in_err-test g c = record {
  read =
      stopped _ _ _ _ c.from_residual.ensures.1
      (loops.broken c.loop-after.invariant (heads.begins_elsifs c.in-Some.ensures.passes)
      (after (passed refl refl c.in-Some.ensures.passes)
      (first {q = stmts_parts} (followed an_expr number_expr _ _ _ _ _ (plain kinds.Then _ refl refl) c.expr.result (Err _)
      c.in_err-test.ensures.followed c.expr.ensures.read))));
}

pub returns : goal.returns
returns g c = record { read = loops.ended c.loop-after.invariant (heads.skips_elsifs _ c.in_default.ensures.passes) }

pub returns-in_err-at : goal.returns-in_err-at
returns-in_err-at g c = record {
  read = stopped _ _ _ _ c.from_residual-in_err-at.ensures.1
      (no_more lists.elsifs (λ o. one kinds.Elsif ∷ expr_parts (one kinds.Then ∷ stmts_parts o)) _ _ c.loop-after.invariant
      (heads.begins_elsifs c.in-Some.ensures.passes) c.elsif_of.result _ c.in_err-at.ensures.pushed
      (whole some_stmts number_stmts lists.an_elsif lists.number_elsif
      (and_then (part (passed refl refl c.in-Some.ensures.passes))
      (part_and an_expr number_expr kinds.Then _ _ _ _ _ (plain kinds.Then _ refl refl) c.expr.result _ c.in_ok-test.ensures.followed
      c.expr.ensures.read)) _ _ _ (lists.elsif_spelled c.in_ok-test.test) (lists.elsif_numbered c.in_ok-test.test) c.nested.result _
      c.elsif_of.ensures.made c.nested.ensures.read));
}
