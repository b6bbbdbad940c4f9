-- Answers of the cycle of expressions.
use Rattle.std.proofs.Common.{◌∷◌, Ok, Err, Some, length, refl, ap, sym, ◌∙◌, arith, rules}
use Rattle.alma_tree.specs.declared.kind.Kind.TheVariants as kinds
use Rattle.alma_tree.specs.declared.phrase.Expr as de
use Rattle.alma_tree.specs.declared.phrase.Term as dm
use Rattle.alma_tree.specs.declared.phrase.Factor as dr
use Rattle.alma_tree.specs.declared.phrase.Primary as dp
use Rattle.alma_tree.specs.declared.phrase.Exprs as dx
use Rattle.alma_tree.specs.declared.phrase.Selector as dj
use Rattle.alma_tree.specs.Spelling.{relation_kind, add_kind, mul_kind, spell_args, spell_expr_tail, spell_expr, spell_compared}
use Rattle.alma_tree.specs.Spelling.{spell_simple}
use Rattle.alma_tree.specs.Spelling.{spell_term, spell_primary, spell_exprs, spell_selector}
use Rattle.alma_tree.specs.View.{args_of, exprs_of, view_expr, compared_of, view_simple, view_term, view_primary, view_selector}
use Rattle.alma_tree.specs.Numbers.{token, node, ◌>>◌, number_name, number_sign, number_expr, number_simple}
use Rattle.alma_tree.specs.Numbers.{number_term, number_primary, number_exprs, number_desig, number_selector}
use Rattle.alma_tree.specs.Numbers.{number_factor, numbers_of_args, numbers_of_exprs, numbers_of_compared}
use Rattle.alma_tree.proofs.Rows as rows
use Rattle.alma_tree.proofs.NumberRows as numbers
use Rattle.alma_grammar.specs.Filling.{spell_inside_args}
use Rattle.alma_grammar.specs.Parts.{factor_part, args_inside, expr_tail, selector_tail, simple_parts, term_parts, exprs_parts, one}
use Rattle.alma_grammar.specs.Parts.{primary_part}
use Rattle.alma_grammar.specs.Parts.{factor_tail, term_tail, compared_part, args_part, expr_parts, desig_parts}
use Rattle.alma_parse_cursor.specs.Forms as forms
use Rattle.alma_parse_cursor.proofs.Joins.{followed, ended}
use Rattle.alma_parse_cursor.proofs.Loops as loops
use Rattle.alma_parse_cursor.proofs.Loops.{grouped}
use Rattle.alma_parse_cursor.proofs.Steps.{passed, opened, closed_any, then, skipped, becoming, after, first, becoming_fails, instead}
use Rattle.alma_parse_cursor.proofs.Steps.{instead_any, extended}
use Rattle.alma_parse_expr.specs.Nodes.{ComparedWith, SumOf}
use Rattle.alma_parse_expr.proofs.Fewer.{behind_within, made_within, pushed_within, within_ok, ok_within}
use Rattle.alma_parse_expr.proofs.Growing.{pushed_turn}
use Rattle.alma_parse_expr.proofs.Stopped.{stopped}
use Rattle.alma_parse_expr.proofs.Made.{made_gives, made_or_gives, behind_front, becoming_gives, made_extends, made_or_extends}
use Rattle.alma_parse_expr.specs.Pieces.{inside_of, number_inside_args}
use Rattle.alma_parse_expr.proofs.Chain.{closing, matching, ended_behind, in_box}
use Rattle.alma_parse_expr.proofs.Heads as heads
use Rattle.alma_parse_expr.proofs.Links.{broken_turn, term_linked, factor_linked, shallower_gives}
use Rattle.alma_parse_expr.proofs.Lists as lists
use Rattle.alma_parse_expr.proofs.Values.{a_simple, a_term, a_factor, a_selector, a_primary, an_expr, some_exprs, a_desig}
use Rattle.alma_parse_expr.proofs.Values.{more_terms, more_factors, more_selectors, count_terms}
use Rattle.alma_parse_expr.proofs.Values.{count_factors, count_selectors}
use Rattle.alma_parse_expr.proofs.expression.+values.Goals as goal

pub expr_from-returns : goal.expr_from-returns
expr_from-returns g t c = record {
  read =
      made_extends (λ v. spell_compared (compared_of v.0)) (λ v. numbers_of_compared v.0 >> node v.1) an_expr number_expr _ _
      (λ o. compared_part ∷ o) _ _ (λ v. de.roll-Expr (record { node = v.1; left = c.args.left; right = v.0 }))
      (λ v. ap spell_expr (rows.expr_rolled (record { node = v.1; left = c.args.left; right = v.0 })))
      (λ v. numbers.expr_rolled (record { node = v.1; left = c.args.left; right = v.0 })) c.numbered.result c.expr_of.result
      c.expr_of.ensures.made (ended (λ v. spell_compared (compared_of v)) numbers_of_compared _ _ _ _ c.compared.result c.numbered.result
      c.numbered.ensures.numbered c.compared.ensures.read);
}

pub term_from-returns : goal.term_from-returns
term_from-returns g t c = record {
  read =
      made_extends (λ v. more_factors v.0) (λ v. count_factors v.0 >> node v.1) a_term number_term _ _ (λ o. factor_tail ∷ o) _ _
      (λ v. dm.roll-Term (record { node = v.1; first = c.args.first; more = v.0 }))
      (λ v. ap spell_term (rows.term_rolled (record { node = v.1; first = c.args.first; more = v.0 })))
      (λ v. numbers.term_rolled (record { node = v.1; first = c.args.first; more = v.0 })) c.numbered.result c.term_of.result
      c.term_of.ensures.made (ended more_factors count_factors _ _ _ _ c.factors.result c.numbered.result c.numbered.ensures.numbered
      c.factors.ensures.read);
}

pub simple_from-returns : goal.simple_from-returns
simple_from-returns g t c = record {
  read =
      made_or_extends (λ v. more_terms v.0) (λ v. count_terms v.0 >> node v.1) a_simple number_simple _ _ (λ o. term_tail ∷ o) _ _
      (SumOf c.args.sign c.args.first) (λ v u h. ap spell_simple h.0)
      (λ v u h. h.1 ∙ sym (grouped (number_sign c.args.sign) (number_term c.args.first) (count_terms v.0 >> node v.1))) c.numbered.result
      c.simple_of.result c.simple_of.ensures.made
      (ended more_terms count_terms _ _ _ _ c.terms.result c.numbered.result c.numbered.ensures.numbered c.terms.ensures.read);
}

pub named-returns : goal.named-returns
named-returns g t c = record {
  read = made_extends (λ v. spell_args (args_of v.0)) (λ v. numbers_of_args v.0 >> node v.1) a_primary
      number_primary _ _ (λ o. args_part ∷ o) _ _ (λ v. dp.Desig v.1 c.args.desig v.0)
      (λ v. ap spell_primary (rows.named_laid v.1 c.args.desig v.0)) (λ v. numbers.named_laid v.1 c.args.desig v.0) c.numbered.result
      c.named_of.result c.named_of.ensures.made
      (ended (λ v. spell_args (args_of v)) numbers_of_args _ _ _ _ c.args-args.result c.numbered.result c.numbered.ensures.numbered
      c.args-args.ensures.read);
}

pub compared-returns : goal.compared-returns
compared-returns g t c = record {
  read =
      becoming_gives (λ v. spell_compared (compared_of v)) numbers_of_compared (λ o. compared_part ∷ o)
      (λ o. one (relation_kind c.in-Some.relation) ∷ simple_parts o) _ _ _
      (heads.begins_relation c.in-Some.relation c.in-Some.ensures.passes)
      c.relation_of.result (made_or_gives (λ v ks. relation_kind c.in-Some.relation ∷ a_simple v ks) (λ v. token >> number_simple v)
      (λ v. spell_compared (compared_of v)) numbers_of_compared _ _ _ _ (ComparedWith c.in-Some.relation) (λ v u h. ap spell_compared h.0)
      (λ v u h. h.1) c.simple.result c.relation_of.result c.relation_of.ensures.made
      (behind_front a_simple number_simple (passed (heads.relation_opens c.in-Some.relation) (heads.relation_closes c.in-Some.relation)
      c.in-Some.ensures.passes) simple_parts _ c.simple.result c.simple.ensures.read));
}

pub terms-loop-operator-preserved : goal.terms-loop-operator-preserved
terms-loop-operator-preserved g t c = pushed_turn _ _ _ _ term_tail (λ o. one (add_kind c.in-Some.operator) ∷ term_parts o) _ _ _
    lists.terms _ _ c.loop-operator.invariant (heads.begins_add c.in-Some.operator c.in-Some.ensures.passes) c.add_link.result _
    c.in_ok-at.ensures.pushed (term_linked c.in-Some.operator _ c.in-Some.ensures.passes c.term.result c.add_link.result
    c.add_link.ensures.made c.term.ensures.read)

pub terms-returns-in_err-at : goal.terms-returns-in_err-at
terms-returns-in_err-at g t c = record {
  read =
      stopped _ _ _ _ c.from_residual.ensures.1
      (broken_turn lists.terms term_tail (λ o. one (add_kind c.in-Some.operator) ∷ term_parts o) _ _ _ _ _ c.loop-operator.invariant
      (heads.begins_add c.in-Some.operator c.in-Some.ensures.passes) c.add_link.result _ c.in_err-at.ensures.pushed
      (term_linked c.in-Some.operator _ c.in-Some.ensures.passes c.term.result c.add_link.result c.add_link.ensures.made
      c.term.ensures.read));
}

pub terms-loop-operator-smaller : goal.terms-loop-operator-smaller
terms-loop-operator-smaller g t c = pushed_within _ c.add_link.result _ _ _ c.in_ok-at.ensures.pushed
    (made_within _ _ c.term.result c.add_link.result c.add_link.ensures.made
    (behind_within a_term number_term term_parts _ _ c.in-Some.ensures.passes c.term.result c.term.ensures.read))

pub factors-loop-operator-preserved : goal.factors-loop-operator-preserved
factors-loop-operator-preserved g t c = pushed_turn _ _ _ _ factor_tail (λ o. one (mul_kind c.in-Some.operator) ∷ factor_part ∷ o) _ _ _
    lists.factors _ _ c.loop-operator.invariant (heads.begins_mul c.in-Some.operator c.in-Some.ensures.passes) c.mul_link.result _
    c.in_ok-at.ensures.pushed (factor_linked c.in-Some.operator _ c.in-Some.ensures.passes c.factor.result c.mul_link.result
    c.mul_link.ensures.made c.factor.ensures.read)

pub factors-returns-in_err-at : goal.factors-returns-in_err-at
factors-returns-in_err-at g t c = record {
  read =
      stopped _ _ _ _ c.from_residual.ensures.1
      (broken_turn lists.factors factor_tail (λ o. one (mul_kind c.in-Some.operator) ∷ factor_part ∷ o) _ _ _ _ _ c.loop-operator.invariant
      (heads.begins_mul c.in-Some.operator c.in-Some.ensures.passes) c.mul_link.result _ c.in_err-at.ensures.pushed
      (factor_linked c.in-Some.operator _ c.in-Some.ensures.passes c.factor.result c.mul_link.result c.mul_link.ensures.made
      c.factor.ensures.read));
}

pub factors-loop-operator-smaller : goal.factors-loop-operator-smaller
factors-loop-operator-smaller g t c = pushed_within _ c.mul_link.result _ _ _ c.in_ok-at.ensures.pushed
    (made_within _ _ c.factor.result c.mul_link.result c.mul_link.ensures.made
    (behind_within a_factor number_factor (λ o. factor_part ∷ o) _ _ c.in-Some.ensures.passes c.factor.result c.factor.ensures.read))

pub expr_list-loop-after-preserved : goal.expr_list-loop-after-preserved
expr_list-loop-after-preserved g t c = pushed_turn _ _ _ _ expr_tail (λ o. one kinds.Comma ∷ expr_parts o) _ _ _ lists.exprs _ _
    c.loop-after.invariant (heads.begins_exprs c.in-Some.ensures.passes) c.expr.result _ c.in_ok-at.ensures.pushed
    (behind_front an_expr number_expr (passed refl refl c.in-Some.ensures.passes) expr_parts _ c.expr.result c.expr.ensures.read)

pub expr_list-returns-in_err-at : goal.expr_list-returns-in_err-at
expr_list-returns-in_err-at g t c = record {
  read =
      stopped _ _ _ _ c.from_residual.ensures.1
      (broken_turn lists.exprs expr_tail (λ o. one kinds.Comma ∷ expr_parts o) _ _ _ _ _ c.loop-after.invariant
      (heads.begins_exprs c.in-Some.ensures.passes) c.expr.result _ c.in_err-at.ensures.pushed
      (behind_front an_expr number_expr (passed refl refl c.in-Some.ensures.passes) expr_parts _ c.expr.result c.expr.ensures.read));
}

pub expr_list-loop-after-smaller : goal.expr_list-loop-after-smaller
expr_list-loop-after-smaller g t c = pushed_within _ c.expr.result _ _ _ c.in_ok-at.ensures.pushed
    (behind_within an_expr number_expr expr_parts _ _ c.in-Some.ensures.passes c.expr.result c.expr.ensures.read)

pub selectors-loop-form-preserved : goal.selectors-loop-form-preserved
selectors-loop-form-preserved g t c = pushed_turn _ _ _ _ selector_tail (forms.selector_form_parts c.in-Some.form) _ _ _ lists.selectors _ _
    c.loop-form.invariant c.in-Some.ensures.becomes c.selector.result _ c.in_ok-at.ensures.pushed c.selector.ensures.read

pub selectors-returns-in_err-at : goal.selectors-returns-in_err-at
selectors-returns-in_err-at g t c = record {
  read =
      stopped _ _ _ _ c.from_residual.ensures.1
      (broken_turn lists.selectors selector_tail (forms.selector_form_parts c.in-Some.form) _ _ _ _ _ c.loop-form.invariant
      c.in-Some.ensures.becomes c.selector.result _ c.in_err-at.ensures.pushed c.selector.ensures.read);
}

pub selectors-loop-form-smaller : goal.selectors-loop-form-smaller
selectors-loop-form-smaller g t c = pushed_within _ c.selector.result _ _ _ c.in_ok-at.ensures.pushed
    (ok_within _ c.selector.result c.selector.ensures.shorter)

pub factor-returns-in-Some : goal.factor-returns-in-Some
factor-returns-in-Some g t c = record {
  read =
      becoming_gives a_factor number_factor (λ o. factor_part ∷ o) (λ o. one kinds.Not ∷ primary_part ∷ o) _ _ _
      (heads.begins_not c.in-Some.ensures.passes) c.not_of.result
      (made_gives (λ v ks. kinds.Not ∷ a_primary v.0 ks) (λ v. token >> number_primary v.0 >> node v.1) a_factor number_factor _ _ _ _
      (λ v. dr.Not v.1 v.0) (λ v. refl) (λ v. refl) c.numbered.result c.not_of.result c.not_of.ensures.made
      (behind_front (λ v. a_primary v.0) (λ v. number_primary v.0 >> node v.1) (passed refl refl c.in-Some.ensures.passes)
      (λ o. primary_part ∷ o) _ c.numbered.result
      (ended a_primary number_primary _ _ _ _ c.primary.result c.numbered.result c.numbered.ensures.numbered c.primary.ensures.read)));
}

pub factor-returns : goal.factor-returns
factor-returns g t c = record {
  read = becoming_gives a_factor number_factor (λ o. factor_part ∷ o) (λ o. primary_part ∷ o) _ _ _
      (heads.no_not _ c.in_default.ensures.passes) c.plain_of.result
      (made_gives (λ v. a_primary v.0) (λ v. number_primary v.0 >> node v.1) a_factor number_factor _ _ _ _ (λ v. dr.Plain v.1 v.0)
      (λ v. refl) (λ v. refl) c.numbered-2.result c.plain_of.result c.plain_of.ensures.made
      (ended a_primary number_primary _ _ _ _ c.primary-2.result c.numbered-2.result c.numbered-2.ensures.numbered
      c.primary-2.ensures.read));
}

pub known-returns-in_err-at : goal.known-returns-in_err-at
known-returns-in_err-at g t c = record { read = stopped _ _ _ _ c.from_residual.ensures.1 (first c.in_err-at.ensures.opened) }

pub known-returns : goal.known-returns
known-returns g t c = record {
  read = made_gives (λ v ks. kinds.Known ∷ kinds.OpenParen ∷ a_desig v.0 (kinds.CloseParen ∷ ks))
      (λ v. token >> token >> number_desig v.0 >> token >> node v.1) a_primary number_primary _ _ _ _ (λ v. dp.Known v.1 v.0)
      (λ v. ap spell_primary (rows.known_laid v.1 v.0)) (λ v. numbers.known_laid v.1 v.0) c.numbered.result c.known_of.result
      c.known_of.ensures.made (behind_front (λ v ks. kinds.OpenParen ∷ a_desig v.0 (kinds.CloseParen ∷ ks))
      (λ v. token >> number_desig v.0 >> token >> node v.1) (passed refl refl c.in_ok-at.ensures.opened.passes)
      (λ o. one kinds.OpenParen ∷ desig_parts (one kinds.CloseParen ∷ o)) _ c.numbered.result
      (behind_front (λ v ks. a_desig v.0 (kinds.CloseParen ∷ ks)) (λ v. number_desig v.0 >> token >> node v.1)
      (opened refl c.in_ok-at.ensures.opened.opens_behind) (λ o. desig_parts (one kinds.CloseParen ∷ o)) _ c.numbered.result
      (ended_behind a_desig number_desig _ _ _ _ _ _ (matching kinds.CloseParen refl refl c.in_ok-at.ensures.opened.opens_behind)
      c.desig.result c.followed_by.result c.followed_by.ensures.followed c.desig.ensures.read c.numbered.result
      c.numbered.ensures.numbered)));
}

pub known-desig-requires : goal.known-desig-requires
known-desig-requires g t c κs within = (
  omega
      (arith, c.in_ok-at.ensures.opened.passes.shorter, c.in_ok-at.ensures.opened.opens_behind.passes.shorter),
  (search rules, c.requires.reads),
)

pub ord-returns-in_err-at : goal.ord-returns-in_err-at
ord-returns-in_err-at g t c = record { read = stopped _ _ _ _ c.from_residual.ensures.1 (first c.in_err-at.ensures.opened) }

pub ord-returns : goal.ord-returns
ord-returns g t c = record {
  read = made_gives (λ v ks. kinds.Ord ∷ kinds.OpenParen ∷ an_expr v.0.value (kinds.CloseParen ∷ ks))
      (λ v. token >> token >> number_expr v.0.value >> token >> node v.1) a_primary number_primary _ _ _ _ (λ v. dp.Ord v.1 v.0)
      (λ v. ap spell_primary (rows.ord_laid v.1 v.0)) (λ v. refl) c.numbered.result c.ord_of.result c.ord_of.ensures.made
      (behind_front (λ v ks. kinds.OpenParen ∷ an_expr v.0.value (kinds.CloseParen ∷ ks))
      (λ v. token >> number_expr v.0.value >> token >> node v.1) (passed refl refl c.in_ok-at.ensures.opened.passes)
      (λ o. one kinds.OpenParen ∷ expr_parts (one kinds.CloseParen ∷ o)) _ c.numbered.result
      (behind_front (λ v ks. an_expr v.0.value (kinds.CloseParen ∷ ks)) (λ v. number_expr v.0.value >> token >> node v.1)
      (opened refl c.in_ok-at.ensures.opened.opens_behind) (λ o. expr_parts (one kinds.CloseParen ∷ o)) _ c.numbered.result
      (ended_behind (λ v. an_expr v.value) (λ v. number_expr v.value) _ _ _ _ _ _
      (matching kinds.CloseParen refl refl c.in_ok-at.ensures.opened.opens_behind) c.boxed-value.result c.followed_by.result
      c.followed_by.ensures.followed (in_box an_expr number_expr _ _ _ _ c.expr.result c.boxed-value.result c.boxed-value.ensures.boxed
      c.expr.ensures.read) c.numbered.result c.numbered.ensures.numbered)));
}

pub ord-expr-requires : goal.ord-expr-requires
ord-expr-requires g t c κs within = (
  omega
      (arith, c.in_ok-at.ensures.opened.passes.shorter, c.in_ok-at.ensures.opened.opens_behind.passes.shorter),
  (search rules, c.requires.reads),
)

pub chr-returns-in_err-at : goal.chr-returns-in_err-at
chr-returns-in_err-at g t c = record { read = stopped _ _ _ _ c.from_residual.ensures.1 (first c.in_err-at.ensures.opened) }

pub chr-returns : goal.chr-returns
chr-returns g t c = record {
  read = made_gives (λ v ks. kinds.Chr ∷ kinds.OpenParen ∷ an_expr v.0.value (kinds.CloseParen ∷ ks))
      (λ v. token >> token >> number_expr v.0.value >> token >> node v.1) a_primary number_primary _ _ _ _ (λ v. dp.Chr v.1 v.0)
      (λ v. ap spell_primary (rows.chr_laid v.1 v.0)) (λ v. refl) c.numbered.result c.chr_of.result c.chr_of.ensures.made
      (behind_front (λ v ks. kinds.OpenParen ∷ an_expr v.0.value (kinds.CloseParen ∷ ks))
      (λ v. token >> number_expr v.0.value >> token >> node v.1) (passed refl refl c.in_ok-at.ensures.opened.passes)
      (λ o. one kinds.OpenParen ∷ expr_parts (one kinds.CloseParen ∷ o)) _ c.numbered.result
      (behind_front (λ v ks. an_expr v.0.value (kinds.CloseParen ∷ ks)) (λ v. number_expr v.0.value >> token >> node v.1)
      (opened refl c.in_ok-at.ensures.opened.opens_behind) (λ o. expr_parts (one kinds.CloseParen ∷ o)) _ c.numbered.result
      (ended_behind (λ v. an_expr v.value) (λ v. number_expr v.value) _ _ _ _ _ _
      (matching kinds.CloseParen refl refl c.in_ok-at.ensures.opened.opens_behind) c.boxed-value.result c.followed_by.result
      c.followed_by.ensures.followed (in_box an_expr number_expr _ _ _ _ c.expr.result c.boxed-value.result c.boxed-value.ensures.boxed
      c.expr.ensures.read) c.numbered.result c.numbered.ensures.numbered)));
}

pub chr-expr-requires : goal.chr-expr-requires
chr-expr-requires g t c κs within = (
  omega
      (arith, c.in_ok-at.ensures.opened.passes.shorter, c.in_ok-at.ensures.opened.opens_behind.passes.shorter),
  (search rules, c.requires.reads),
)

pub known-open_after-requires : goal.known-open_after-requires
known-open_after-requires g t c = record { plain = refl; still = refl; opening = refl }

pub ord-open_after-requires : goal.ord-open_after-requires
ord-open_after-requires g t c = record { plain = refl; still = refl; opening = refl }

pub chr-open_after-requires : goal.chr-open_after-requires
chr-open_after-requires g t c = record { plain = refl; still = refl; opening = refl }

pub args-returns-then-is_at : goal.args-returns-then-is_at
args-returns-then-is_at g t c = record {
  read =
      becoming_gives (λ v. spell_args (args_of v)) numbers_of_args (λ o. args_part ∷ o) (λ o. one kinds.OpenParen ∷ args_inside ∷ o) _ _ _
      (heads.at_args _ (sym c.is_at.ensures.starts ∙ c.if-is_at.true)) c.arguments_of.result
      (lists.args_given _ _ _ _ c.args_values.result c.arguments_of.result c.arguments_of.ensures.made
      (behind_front (λ v. spell_inside_args (inside_of v)) number_inside_args (opened refl c.in_ok-at.ensures.opened) (λ o. args_inside ∷ o)
      _
      c.args_values.result (shallower_gives (λ v. spell_inside_args (inside_of v)) number_inside_args (λ o. args_inside ∷ o)
      c.in_ok-at.ensures.opened _ c.args_values.result c.args_values.ensures.read)));
}

pub args_values-returns : goal.args_values-returns
args_values-returns g t c = record {
  read =
      becoming_gives (λ v. spell_inside_args (inside_of v)) number_inside_args (λ o. args_inside ∷ o)
      (λ o. exprs_parts (one kinds.CloseParen ∷ o)) _ _ _ (heads.some_args _ c.in_default.ensures.passes) c.present.result
      (made_gives (λ v ks. some_exprs v (kinds.CloseParen ∷ ks)) (λ v. number_exprs v >> token) (λ v. spell_inside_args (inside_of v))
      number_inside_args _ _ _ _ (λ v. Some v) (λ v. refl) (λ v. refl) c.followed_by.result c.present.result c.present.ensures.made
      (followed some_exprs number_exprs _ _ _ _ _ (closing kinds.CloseParen _ refl refl) c.exprs.result c.followed_by.result
      c.followed_by.ensures.followed c.exprs.ensures.read));
}

pub exprs-returns : goal.exprs-returns
exprs-returns g t c = record {
  read = made_gives (λ v ks. an_expr c.in_ok-first.first.value (spell_expr_tail (exprs_of v.items) ks))
      (λ v. number_expr c.in_ok-first.first.value >> numbers_of_exprs v.items) some_exprs number_exprs _ _ _ _
      (λ v. dx.roll-Exprs (record { first = c.in_ok-first.first; more = v }))
      (λ v. ap spell_exprs (rows.exprs_rolled (record { first = c.in_ok-first.first; more = v })))
      (λ v. numbers.exprs_rolled (record { first = c.in_ok-first.first; more = v })) c.expr_list.result c.expressions_of.result
      c.expressions_of.ensures.made (behind_front (λ v. spell_expr_tail (exprs_of v.items)) (λ v. numbers_of_exprs v.items)
      (in_box an_expr number_expr _ _ _ _ c.expr.result (Ok _) c.in_ok-first.ensures.boxed c.expr.ensures.read) (λ o. expr_tail ∷ o) _
      c.expr_list.result c.expr_list.ensures.read);
}

pub desig-returns : goal.desig-returns
desig-returns g t c = record {
  read = made_gives (λ v ks. kinds.Name ∷ more_selectors v.0 ks)
      (λ v. number_name c.in_ok-name.name >> count_selectors v.0 >> node v.1) a_desig number_desig _ _ _ _
      (λ v. record { node = v.1; name = c.in_ok-name.name; more = v.0 }) (λ v. refl) (λ v. refl) c.numbered.result c.desig_of.result
      c.desig_of.ensures.made (behind_front (λ v. more_selectors v.0) (λ v. count_selectors v.0 >> node v.1) (c.in_ok-name.ensures.read _)
      (λ o. selector_tail ∷ o) _ c.numbered.result
      (ended more_selectors count_selectors _ _ _ _ c.selectors.result c.numbered.result c.numbered.ensures.numbered
      c.selectors.ensures.read));
}

pub index-returns-clause-read : goal.index-returns-clause-read
index-returns-clause-read g t c = made_gives (λ v ks. kinds.OpenBracket ∷ some_exprs v.0 (kinds.CloseBracket ∷ ks))
    (λ v. token >> number_exprs v.0 >> token >> node v.1) a_selector number_selector _ _ _ _ (λ v. dj.Index v.1 v.0) (λ v. refl) (λ v. refl)
    c.numbered.result c.index_of.result c.index_of.ensures.made
    (behind_front (λ v ks. some_exprs v.0 (kinds.CloseBracket ∷ ks)) (λ v. number_exprs v.0 >> token >> node v.1)
    (opened refl c.in_ok-at.ensures.opened) (λ o. exprs_parts (one kinds.CloseBracket ∷ o)) _ c.numbered.result
    (ended_behind some_exprs number_exprs _ _ _ _ _ _ (matching kinds.CloseBracket refl refl c.in_ok-at.ensures.opened) c.exprs.result
    c.followed_by.result c.followed_by.ensures.followed c.exprs.ensures.read c.numbered.result c.numbered.ensures.numbered))

pub index-returns-clause-shorter : goal.index-returns-clause-shorter
index-returns-clause-shorter g t c = within_ok _ c.index_of.result
    (made_within _ _ c.numbered.result c.index_of.result c.index_of.ensures.made
    (behind_within (λ v ks. some_exprs v.0 (kinds.CloseBracket ∷ ks)) (λ v. number_exprs v.0 >> token >> node v.1)
    (λ o. exprs_parts (one kinds.CloseBracket ∷ o)) _ _ c.in_ok-at.ensures.opened.passes c.numbered.result
    (ended_behind some_exprs number_exprs _ _ _ _ _ _ (matching kinds.CloseBracket refl refl c.in_ok-at.ensures.opened) c.exprs.result
    c.followed_by.result c.followed_by.ensures.followed c.exprs.ensures.read c.numbered.result c.numbered.ensures.numbered)))

pub args_values-returns-in-Some : goal.args_values-returns-in-Some
args_values-returns-in-Some g t c = record {
  read = becoming (heads.begins_args_end c.in-Some.ensures.passes) (closed_any refl refl
      c.in-Some.ensures.passes);
}

pub desig-returns-in_err-name : goal.desig-returns-in_err-name
desig-returns-in_err-name g t c = record { read = stopped _ _ _ _ c.from_residual.ensures.1 (first (c.in_err-name.ensures.read _)) }

pub index-returns-in_err-at-clause-read : goal.index-returns-in_err-at-clause-read
index-returns-in_err-at-clause-read g t c = stopped _ _ _ _ c.from_residual.ensures.1 (first c.in_err-at.ensures.opened)

pub expr-returns-in_err-left : goal.expr-returns-in_err-left
expr-returns-in_err-left g t c = record { read = stopped _ _ _ _ c.from_residual.ensures.1 (first c.in_err-left.ensures.read) }

pub expr-returns : goal.expr-returns
expr-returns g t c = record {
  read = extended c.expr_from.result (λ v. spell_expr (view_expr v)) number_expr (λ o. compared_part ∷ o)
      c.in_ok-left.ensures.read c.expr_from.ensures.read;
}

pub simple-returns-in_err-first : goal.simple-returns-in_err-first
simple-returns-in_err-first g t c = record {
  read = stopped _ _ _ _ c.from_residual.ensures.1 (after (c.sign-sign.ensures.read _) (first
      c.in_err-first.ensures.read));
}

pub simple-returns : goal.simple-returns
simple-returns g t c = record {
  read = extended c.simple_from.result (λ v. spell_simple (view_simple v)) number_simple (λ o. term_tail ∷ o)
      (then (c.sign-sign.ensures.read _) c.in_ok-first.ensures.read) c.simple_from.ensures.read;
}

pub term-returns-in_err-first : goal.term-returns-in_err-first
term-returns-in_err-first g t c = record { read = stopped _ _ _ _ c.from_residual.ensures.1 (first c.in_err-first.ensures.read) }

pub term-returns : goal.term-returns
term-returns g t c = record {
  read = extended c.term_from.result (λ v. spell_term (view_term v)) number_term (λ o. factor_tail ∷ o)
      c.in_ok-first.ensures.read c.term_from.ensures.read;
}

pub compared-returns-in_default : goal.compared-returns-in_default
compared-returns-in_default g t c = record { read = skipped c.in_default.ensures.passes }

pub terms-loop-operator-init : goal.terms-loop-operator-init
terms-loop-operator-init g t c = rw c.new-more.ensures.items loops.loops_start

pub terms-returns : goal.terms-returns
terms-returns g t c = record { read = loops.ended c.loop-operator.invariant c.in_default.ensures.passes }

pub factors-loop-operator-init : goal.factors-loop-operator-init
factors-loop-operator-init g t c = rw c.new-more.ensures.items loops.loops_start

pub factors-returns : goal.factors-returns
factors-returns g t c = record { read = loops.ended c.loop-operator.invariant c.in_default.ensures.passes }

pub simple-term-requires : goal.simple-term-requires
simple-term-requires g t c κs within = (omega (arith, (c.sign-sign.ensures.read 0).shorter), (search rules, c.requires.reads))

pub simple-simple_from-requires : goal.simple-simple_from-requires
simple-simple_from-requires g t c κs within =
    (omega (arith, (c.sign-sign.ensures.read 0).shorter, c.in_ok-first.ensures.read.shorter), (search rules, c.requires.reads))

pub exprs-returns-in_err-first : goal.exprs-returns-in_err-first
exprs-returns-in_err-first g t c = record {
  read =
      stopped _ _ _ _ c.from_residual.ensures.1
      (first (in_box an_expr number_expr _ _ _ _ c.expr.result (Err _) c.in_err-first.ensures.boxed c.expr.ensures.read));
}

pub exprs-expr_list-requires : goal.exprs-expr_list-requires
exprs-expr_list-requires g t c κs within = (
  omega (arith, (in_box an_expr number_expr _ _ _ _ c.expr.result (Ok _) c.in_ok-first.ensures.boxed c.expr.ensures.read).shorter),
  (search rules, c.requires.reads),
)

pub expr_list-loop-after-init : goal.expr_list-loop-after-init
expr_list-loop-after-init g t c = rw c.new-more.ensures.items loops.loops_start

pub expr_list-returns : goal.expr_list-returns
expr_list-returns g t c = record { read = loops.ended c.loop-after.invariant (heads.skips_exprs _ c.in_default.ensures.passes) }

pub args-returns-in_err-at : goal.args-returns-in_err-at
args-returns-in_err-at g t c = record {
  read = stopped _ _ _ _ c.from_residual.ensures.1 (becoming_fails (heads.at_args _ (sym
      c.is_at.ensures.starts ∙ c.if-is_at.true)) (first c.in_err-at.ensures.opened));
}

pub args-returns : goal.args-returns
args-returns g t c = record { read = skipped (heads.skips_args _ (sym c.is_at.ensures.starts ∙ c.if-is_at.false)) }

pub primary-returns-in_err-primary_form : goal.primary-returns-in_err-primary_form
primary-returns-in_err-primary_form g t c = record {
  read = stopped _ _ _ _ c.from_residual.ensures.1 (c.in_err-primary_form.ensures.becomes
      _);
}

pub primary-returns-in-Number : goal.primary-returns-in-Number
primary-returns-in-Number g t c = record {
  read = instead_any c.number.result (λ v. spell_primary (view_primary v)) number_primary (λ o.
      primary_part ∷ o) (λ o. one kinds.Number ∷ o) c.args.depth _ (rw c.in-Number.is at c.in_ok-primary_form.ensures.becomes)
      c.number.ensures.read;
}

pub primary-returns-in-Literal : goal.primary-returns-in-Literal
primary-returns-in-Literal g t c = record {
  read = instead_any c.literal.result (λ v. spell_primary (view_primary v)) number_primary (λ o.
      primary_part ∷ o) (λ o. one kinds.Literal ∷ o) c.args.depth _ (rw c.in-Literal.is at c.in_ok-primary_form.ensures.becomes)
      c.literal.ensures.read;
}

pub primary-returns-in-Paren : goal.primary-returns-in-Paren
primary-returns-in-Paren g t c = record {
  read = instead c.paren.result (λ v. spell_primary (view_primary v)) number_primary (λ o.
      primary_part ∷ o) forms.paren_parts c.args.depth _ (rw c.in-Paren.is at c.in_ok-primary_form.ensures.becomes) c.paren.ensures.read;
}

pub primary-returns-in-Known : goal.primary-returns-in-Known
primary-returns-in-Known g t c = record {
  read = instead c.known.result (λ v. spell_primary (view_primary v)) number_primary (λ o.
      primary_part ∷ o) forms.known_parts c.args.depth _ (rw c.in-Known.is at c.in_ok-primary_form.ensures.becomes) c.known.ensures.read;
}

pub primary-returns-in-Ord : goal.primary-returns-in-Ord
primary-returns-in-Ord g t c = record {
  read = instead c.ord.result (λ v. spell_primary (view_primary v)) number_primary (λ o. primary_part
      ∷ o) forms.ord_parts c.args.depth _ (rw c.in-Ord.is at c.in_ok-primary_form.ensures.becomes) c.ord.ensures.read;
}

pub primary-returns-in-Chr : goal.primary-returns-in-Chr
primary-returns-in-Chr g t c = record {
  read = instead c.chr.result (λ v. spell_primary (view_primary v)) number_primary (λ o. primary_part
      ∷ o) forms.chr_parts c.args.depth _ (rw c.in-Chr.is at c.in_ok-primary_form.ensures.becomes) c.chr.ensures.read;
}

pub primary-returns-in_err-desig-in-Desig : goal.primary-returns-in_err-desig-in-Desig
primary-returns-in_err-desig-in-Desig g t c = record {
  read = stopped _ _ _ _ c.from_residual-in_err-desig-in-Desig.ensures.1
      (becoming_fails (rw c.in-Desig.is at c.in_ok-primary_form.ensures.becomes) (first c.in_err-desig-in-Desig.ensures.read));
}

pub primary-returns-in_ok-desig-in-Desig : goal.primary-returns-in_ok-desig-in-Desig
primary-returns-in_ok-desig-in-Desig g t c = record {
  read = instead c.named.result (λ v. spell_primary (view_primary v)) number_primary (λ
      o. primary_part ∷ o) (λ o. desig_parts (args_part ∷ o)) c.args.depth _ (rw c.in-Desig.is at c.in_ok-primary_form.ensures.becomes)
      (extended
      c.named.result (λ v. spell_primary (view_primary v)) number_primary (λ o. args_part ∷ o) c.in_ok-desig-in-Desig.ensures.read
      c.named.ensures.read);
}

pub args-open-requires : goal.args-open-requires
args-open-requires g t c = record { opening = refl }

pub selectors-loop-form-init : goal.selectors-loop-form-init
selectors-loop-form-init g t c = rw c.new-more.ensures.items loops.loops_start

pub selectors-returns : goal.selectors-returns
selectors-returns g t c = record { read = loops.ended c.loop-form.invariant c.in_default.ensures.becomes }

pub selector-returns-in-Field-clause-read : goal.selector-returns-in-Field-clause-read
selector-returns-in-Field-clause-read g t c = rw c.in-Field.is (instead_any c.field.result (λ v. spell_selector (view_selector v))
    number_selector forms.field_parts forms.field_parts c.args.depth _ (record { becomes = λ d o. refl }) c.field.ensures.read)

pub selector-returns-in-Index-clause-read : goal.selector-returns-in-Index-clause-read
selector-returns-in-Index-clause-read g t c = rw c.in-Index.is c.index.ensures.read

pub desig-selectors-requires : goal.desig-selectors-requires
desig-selectors-requires g t c κs within =
    (omega (arith, ap length (c.in_ok-name.ensures.read 0).spelled_so), (search rules, c.requires.reads))

pub index-open-requires : goal.index-open-requires
index-open-requires g t c = record { opening = refl }
