-- Answers of the cycle of expressions.
use Rattle.std.proofs.Common.{◌+◌, [], ◌++◌, Some, drop, refl, sym, ap, ◌∙◌, arith, rules}
use Rattle.std.specs.Prelude.{slice_get, option_map}
use Rattle.alma_check_phrases.proofs.Begins.{begun, stops_as, node_is}
use Rattle.alma_check_phrases.proofs.Calls as calls
use Rattle.alma_check_phrases.proofs.Calls.{args_last}
use Rattle.alma_check_phrases.proofs.Empty.{empty_by, some_by, selected_by, length_is}
use Rattle.alma_check_phrases.proofs.Same.{kind_same, indexed_same}
use Rattle.alma_tree.specs.declared.phrase.Compared as dc
use Rattle.alma_tree.specs.declared.phrase.Args as dg
use Rattle.alma_tree.specs.declared.phrase.Exprs as dx
use Rattle.alma_ir.specs.Tree as ir
use Rattle.alma_ir.specs.View.{arg_of, args_list}
use Rattle.alma_rules.specs.Numbered as tree
use Rattle.alma_rules.specs.View as view
use Rattle.alma_rules.specs.Judgement.{Judgement, fine, of_value}
use Rattle.alma_rules.specs.Scene.{inside_of}
use Rattle.alma_rules.specs.Parts as parts
use Rattle.alma_rules.specs.ExprRules as uses
use Rattle.alma_rules.specs.Nodes as nodes
use Rattle.alma_rules.specs.Walk as walk
use Rattle.alma_check_rules.specs.Views.{scene_of, somewhere, headings_in, found_view, use_view, operand_view, operator_view, typing_of}
use Rattle.alma_check_rules.specs.Views.{denoted_of, denoted_in, callee_in, operands_of, operands_in, operands_view, args_of, args_in}
use Rattle.alma_check_rules.specs.Views.{formal_view}
use Rattle.alma_rules.proofs.Judging.{passed, no_memory, answers_as}
use Rattle.alma_rules.proofs.Onwards.{onward_end, nothing_behind}
use Rattle.alma_rules.proofs.Rows as rows
use Rattle.alma_rules.proofs.Exprs as exprs
use Rattle.alma_rules.proofs.Desigs as desigs
use Rattle.alma_rules.specs.Appends.{append_args}
use Rattle.alma_check_join_stmt.specs.Onward.{onward_operands, onward_args}
use denote.Param.Weighed.{most, at_most}
use Rattle.alma_tree.specs.declared.phrase.Arm.TheViews as views
use Rattle.alma_tree.specs.declared.phrase.Arm.TheShapes as shapes
use Rattle.alma_tree.specs.declared.phrase.Stmts as ds
use Rattle.alma_tree.specs.declared.phrase.Stmt as dt
use Rattle.alma_tree.specs.declared.phrase.Expr as de
use Rattle.alma_tree.specs.declared.phrase.Simple as di
use Rattle.alma_tree.specs.declared.phrase.AddLink as dk
use Rattle.alma_tree.specs.declared.phrase.Term as dm
use Rattle.alma_tree.specs.declared.phrase.MulLink as dn
use Rattle.alma_tree.specs.declared.phrase.Factor as dr
use Rattle.alma_tree.specs.declared.phrase.Primary as dp
use Rattle.alma_tree.specs.declared.phrase.Selector as dj
use Rattle.alma_check_phrases.proofs.Sizes as sizes
use Rattle.alma_check_phrases.proofs.+values.Goals as goal

pub expression::check_expr-returns-in_err-left : goal.expression::check_expr-returns-in_err-left
expression::check_expr-returns-in_err-left g t c =
    passed _ typing_of _ _ _ c.from_residual.ensures.1
    (exprs.expr_stops (scene_of c.args.env.now c.args.place) c.args.slot.now c.args.expr.now _ c.in_err-left.ensures)

pub expression::check_expr-returns-in-None : goal.expression::check_expr-returns-in-None
expression::check_expr-returns-in-None g t c =
    rw (exprs.expr_alone (scene_of c.args.env.now c.args.place) c.args.slot.now c.args.expr.now c.in-None.is) c.in_ok-left.ensures

pub expression::check_expr-returns-in-Some : goal.expression::check_expr-returns-in-Some
expression::check_expr-returns-in-Some g t c =
    rw (
      exprs.expr_pair (scene_of c.args.env.now c.args.place) c.args.slot.now c.args.expr.now c.in-Some.compared c.in-Some.is,
      c.in_ok-left.ensures,
    )
    (rw (c.deref.ensures, c.deref-in-Some.ensures)
    at (c.join_relation.ensures (walk.judge_simple (scene_of c.args.env.now c.args.place) c.check_simple.new.slot
    (view.view_simple (dc.out-Compared c.deref.result.now).right)) c.check_simple.new.slot c.check_simple-right.new.slot
    c.check_simple-right.ensures))

pub expression::check_simple-returns-in_err-first : goal.expression::check_simple-returns-in_err-first
expression::check_simple-returns-in_err-first g t c =
    passed _ typing_of _ _ _ c.from_residual.ensures.1
    (exprs.simple_stops (scene_of c.args.env.now c.args.place) c.args.slot.now c.args.simple.now (operand_view c.first_add-operand.result) _
    (rw c.deref.ensures.value at c.first_add-operand.ensures) (rw c.deref-2.ensures at c.in_err-first.ensures))

pub expression::check_simple-returns : goal.expression::check_simple-returns
expression::check_simple-returns g t c =
    exprs.simple_fine (scene_of c.args.env.now c.args.place) c.args.slot.now c.args.simple.now (operand_view c.first_add-operand.result)
    typing_of _ _ _ _ (rw c.deref.ensures.value at c.first_add-operand.ensures) (rw c.deref-2.ensures at c.in_ok-first.ensures)
    (rw (c.deref-3.ensures.value, c.deref-4.ensures.value)
    at (c.join_sum.ensures (walk.judge_terms (scene_of c.args.env.now c.args.place) c.check_term.new.slot
    c.first_add-operand.result.sort (view.terms_of c.deref-3.result.now)) c.check_term.new.slot c.check_terms-rest.new.slot
    c.check_terms-rest.ensures))

pub expression::check_terms-loop-link-init : goal.expression::check_terms-loop-link-init
expression::check_terms-loop-link-init g t c =
    begun (λ (x y : parts.Operands). x ++ y) [] (operands_in (Some c.new.result))
    (walk.judge_terms (scene_of c.args.env.now c.args.place) c.args.slot.now c.args.sort (view.terms_of c.args.more.now)) (λ b. refl)
    (ap (λ l. Some (operands_view l)) c.new.ensures.items)

pub expression::check_terms-loop-link-preserved : goal.expression::check_terms-loop-link-preserved
expression::check_terms-loop-link-preserved g t c =
    c.loop-link.invariant ∙ ap (onward_operands (operands_in c.loop-link.kept))
    (exprs.terms_next (scene_of c.args.env.now c.args.place) c.loop-link.slot c.loop-link.link-index c.args.sort c.args.more.now
    c.link-item.result (operator_view c.add_operator-operator.result) (operand_view c.behind-operand.result) c.loop-link-test.true
    c.link-item.is c.add_operator-operator.ensures c.behind-operand.ensures)
    ∙ c.in_ok-kept.ensures _ _ (λ m. walk.judge_terms (scene_of c.args.env.now c.args.place) m c.args.sort
    (view.terms_of (drop (c.loop-link.link-index + 1) c.args.more.now))) c.check_term-typed.ensures

pub expression::check_terms-returns-in_err-kept : goal.expression::check_terms-returns-in_err-kept
expression::check_terms-returns-in_err-kept g t c =
    passed _ operands_of _ _ _ c.from_residual.ensures.1
    (stops_as _ _ _ (c.loop-link.invariant ∙ ap (onward_operands (operands_in c.loop-link.kept))
    (exprs.terms_next (scene_of c.args.env.now c.args.place) c.loop-link.slot c.loop-link.link-index c.args.sort c.args.more.now
    c.link-item.result (operator_view c.add_operator-operator.result) (operand_view c.behind-operand.result) c.loop-link-test.true
    c.link-item.is c.add_operator-operator.ensures c.behind-operand.ensures))
    (c.in_err-kept.ensures _ _ (λ m. walk.judge_terms (scene_of c.args.env.now c.args.place) m c.args.sort
    (view.terms_of (drop (c.loop-link.link-index + 1) c.args.more.now))) c.check_term-typed.ensures))

pub expression::check_terms-returns : goal.expression::check_terms-returns
expression::check_terms-returns g t c =
    c.loop-link.invariant ∙ ap (onward_operands (operands_in c.loop-link.kept))
    (exprs.terms_end (scene_of c.args.env.now c.args.place) c.loop-link.slot c.loop-link.link-index c.args.sort c.args.more.now
    c.loop-link-test.false)
    ∙ onward_end (λ (x y : parts.Operands). x ++ y) [] (operands_in c.loop-link.kept) c.loop-link.slot nothing_behind

pub expression::check_term-returns-in_err-first : goal.expression::check_term-returns-in_err-first
expression::check_term-returns-in_err-first g t c =
    passed _ typing_of _ _ _ c.from_residual.ensures.1
    (exprs.term_stops (scene_of c.args.env.now c.args.place) c.args.slot.now (operand_view c.args.operand) c.args.term.now
    (operand_view c.first_mul-inner.result) _ (rw c.deref.ensures.value at c.first_mul-inner.ensures) c.in_err-first.ensures)

pub expression::check_term-returns : goal.expression::check_term-returns
expression::check_term-returns g t c =
    exprs.term_fine (scene_of c.args.env.now c.args.place) c.args.slot.now (operand_view c.args.operand) c.args.term.now
    (operand_view c.first_mul-inner.result) typing_of _ _ _ _ (rw c.deref.ensures.value at c.first_mul-inner.ensures)
    c.in_ok-first.ensures
    (rw (c.deref-2.ensures.value, c.deref-3.ensures.value)
    at (c.join_product.ensures (walk.judge_factors (scene_of c.args.env.now c.args.place) c.check_factor.new.slot
    c.first_mul-inner.result.sort (view.factors_of c.deref-2.result.now)) c.check_factor.new.slot c.check_factors-rest.new.slot
    c.check_factors-rest.ensures))

pub expression::check_factors-loop-link-init : goal.expression::check_factors-loop-link-init
expression::check_factors-loop-link-init g t c =
    begun (λ (x y : parts.Operands). x ++ y) [] (operands_in (Some c.new.result))
    (walk.judge_factors (scene_of c.args.env.now c.args.place) c.args.slot.now c.args.sort (view.factors_of c.args.more.now))
    (λ b. refl) (ap (λ l. Some (operands_view l)) c.new.ensures.items)

pub expression::check_factors-loop-link-preserved : goal.expression::check_factors-loop-link-preserved
expression::check_factors-loop-link-preserved g t c =
    c.loop-link.invariant ∙ ap (onward_operands (operands_in c.loop-link.kept))
    (exprs.factors_next (scene_of c.args.env.now c.args.place) c.loop-link.slot c.loop-link.link-index c.args.sort c.args.more.now
    c.link-item.result (operator_view c.mul_operator-operator.result) (operand_view c.behind-operand.result) c.loop-link-test.true
    c.link-item.is c.mul_operator-operator.ensures c.behind-operand.ensures)
    ∙ c.in_ok-kept.ensures _ _ (λ m. walk.judge_factors (scene_of c.args.env.now c.args.place) m c.args.sort
    (view.factors_of (drop (c.loop-link.link-index + 1) c.args.more.now))) c.check_factor-typed.ensures

pub expression::check_factors-returns-in_err-kept : goal.expression::check_factors-returns-in_err-kept
expression::check_factors-returns-in_err-kept g t c =
    passed _ operands_of _ _ _ c.from_residual.ensures.1
    (stops_as _ _ _ (c.loop-link.invariant ∙ ap (onward_operands (operands_in c.loop-link.kept))
    (exprs.factors_next (scene_of c.args.env.now c.args.place) c.loop-link.slot c.loop-link.link-index c.args.sort c.args.more.now
    c.link-item.result (operator_view c.mul_operator-operator.result) (operand_view c.behind-operand.result) c.loop-link-test.true
    c.link-item.is c.mul_operator-operator.ensures c.behind-operand.ensures))
    (c.in_err-kept.ensures _ _ (λ m. walk.judge_factors (scene_of c.args.env.now c.args.place) m c.args.sort
    (view.factors_of (drop (c.loop-link.link-index + 1) c.args.more.now))) c.check_factor-typed.ensures))

pub expression::check_factors-returns : goal.expression::check_factors-returns
expression::check_factors-returns g t c =
    c.loop-link.invariant ∙ ap (onward_operands (operands_in c.loop-link.kept))
    (exprs.factors_end (scene_of c.args.env.now c.args.place) c.loop-link.slot c.loop-link.link-index c.args.sort c.args.more.now
    c.loop-link-test.false)
    ∙ onward_end (λ (x y : parts.Operands). x ++ y) [] (operands_in c.loop-link.kept) c.loop-link.slot nothing_behind

pub expression::check_factor-returns-in-Not : goal.expression::check_factor-returns-in-Not
expression::check_factor-returns-in-Not g t c =
    rw (
      c.in-Not.is,
      exprs.not_at (scene_of c.args.env.now c.args.place) c.args.slot.now (operand_view c.args.operand) c.in-Not.node
          c.in-Not.primary,
    )
    (rw c.primary_number-inner.ensures at (c.join_not.ensures
    (walk.judge_primary (inside_of (scene_of c.args.env.now c.args.place)) c.args.slot.now (view.view_primary c.in-Not.primary))
    c.check_primary-typed.new.slot c.check_primary-typed.ensures))

pub expression::check_factor-returns-in-Plain : goal.expression::check_factor-returns-in-Plain
expression::check_factor-returns-in-Plain g t c =
    rw (
      c.in-Plain.is,
      exprs.plain_at (scene_of c.args.env.now c.args.place) c.args.slot.now (operand_view c.args.operand) c.in-Plain.node
          c.in-Plain.primary,
    )
    (c.join_factor.ensures (walk.judge_primary (scene_of c.args.env.now c.args.place) c.args.slot.now
    (view.view_primary c.in-Plain.primary)) c.check_primary-typed-in-Plain.new.slot c.check_primary-typed-in-Plain.ensures)

pub expression::check_primary-returns-in-Number : goal.expression::check_primary-returns-in-Number
expression::check_primary-returns-in-Number g t c =
    rw (c.in-Number.is, exprs.number_is (scene_of c.args.env.now c.args.place) c.args.slot.now c.in-Number.node c.in-Number.number.token)
    (c.check_number.ensures c.args.slot.now)

pub expression::check_primary-returns-in-Literal : goal.expression::check_primary-returns-in-Literal
expression::check_primary-returns-in-Literal g t c =
    rw (
      c.in-Literal.is,
      exprs.literal_is (scene_of c.args.env.now c.args.place) c.args.slot.now c.in-Literal.node
          c.in-Literal.literal.token,
    ) (c.check_literal.ensures c.args.slot.now)

pub expression::check_primary-returns-in-Desig : goal.expression::check_primary-returns-in-Desig
expression::check_primary-returns-in-Desig g t c =
    rw (c.in-Desig.is, rows.named_is c.in-Desig.node c.in-Desig.desig c.in-Desig.args) c.check_named.ensures

pub expression::check_primary-returns-in-Paren : goal.expression::check_primary-returns-in-Paren
expression::check_primary-returns-in-Paren g t c =
    rw (c.in-Paren.is, rows.paren_is c.in-Paren.node c.in-Paren.body) (rw c.deref.ensures at c.check_parens.ensures)

pub expression::check_primary-returns-in-Known : goal.expression::check_primary-returns-in-Known
expression::check_primary-returns-in-Known g t c =
    rw (
      c.in-Known.is,
      rows.known_is c.in-Known.node c.in-Known.desig,
      exprs.known_at (scene_of c.args.env.now c.args.place) c.args.slot.now c.in-Known.node (view.view_desig c.in-Known.desig),
    )
    (c.join_known.ensures _ _ c.check_desig-found.ensures)

pub expression::check_primary-returns-in-Ord : goal.expression::check_primary-returns-in-Ord
expression::check_primary-returns-in-Ord g t c =
    rw (
      c.in-Ord.is,
      rows.ord_is c.in-Ord.node c.in-Ord.value,
      exprs.ord_at (scene_of c.args.env.now c.args.place) c.args.slot.now c.in-Ord.node (view.view_expr c.in-Ord.value.value),
    )
    (rw c.deref-in-Ord.ensures at (c.join_ord.ensures _ _ c.check_expr-typed.ensures))

pub expression::check_primary-returns-in-Chr : goal.expression::check_primary-returns-in-Chr
expression::check_primary-returns-in-Chr g t c =
    rw (
      c.in-Chr.is,
      rows.chr_is c.in-Chr.node c.in-Chr.value,
      exprs.chr_at (scene_of c.args.env.now c.args.place) c.args.slot.now c.in-Chr.node (view.view_expr c.in-Chr.value.value),
    )
    (rw c.deref-in-Chr.ensures at (c.join_chr.ensures _ _ c.check_expr-typed-in-Chr.ensures))

pub designator::check_desig-returns-in_err-start : goal.designator::check_desig-returns-in_err-start
designator::check_desig-returns-in_err-start g t c =
    passed _ (denoted_of (headings_in c.args.env.now)) _ _ _ c.from_residual-in_err-start.ensures.1
    (desigs.desig_stops (scene_of c.args.env.now c.args.place) c.args.slot.now (use_view c.args.wanted) c.args.desig.now
    (found_view (headings_in c.args.env.now) c.in_ok-found.found) _ c.in_ok-found.ensures (c.in_err-start.ensures c.args.slot.now))

pub designator::check_desig-returns-in_err-found : goal.designator::check_desig-returns-in_err-found
designator::check_desig-returns-in_err-found g t c =
    no_memory _ (denoted_of (headings_in c.args.env.now)) _ _ c.from_residual.ensures.1

pub designator::check_desig-returns : goal.designator::check_desig-returns
designator::check_desig-returns g t c =
    rw (
      desigs.desig_fine (scene_of c.args.env.now c.args.place) c.args.slot.now (use_view c.args.wanted) c.args.desig.now
          (found_view (headings_in c.args.env.now) c.in_ok-found.found) c.args.slot.now
          (denoted_in (headings_in c.args.env.now) c.in_ok-start.start) c.in_ok-found.ensures (c.in_ok-start.ensures c.args.slot.now),
      selected_by c.args.desig.now.more,
      ← c.is_empty.ensures,
    )
    (c.join_desig.ensures (walk.judge_selectors (scene_of c.args.env.now c.args.place)
    (of_value c.args.slot.now (denoted_in (headings_in c.args.env.now) c.in_ok-start.start))
    (view.selectors_of c.args.desig.now.more.items)) _ (rw c.deref.ensures.value at c.check_selectors-part.ensures))

pub designator::check_selectors-loop-selector-preserved : goal.designator::check_selectors-loop-selector-preserved
designator::check_selectors-loop-selector-preserved g t c =
    c.loop-selector.invariant ∙ (desigs.selectors_next (scene_of c.args.env.now c.args.place)
    (of_value c.loop-selector.slot (denoted_in (headings_in c.args.env.now) c.loop-selector.found)) c.loop-selector.selector-index
    c.args.more.now c.selector-item.result c.loop-selector-test.true c.selector-item.is)
    ∙ ap (λ (j : Judgement parts.Denotation). walk.judge_selectors (scene_of c.args.env.now c.args.place) j
    (view.selectors_of (drop (c.loop-selector.selector-index + 1) c.args.more.now))) c.in_ok-found.ensures

pub designator::check_selectors-returns-in_err-found : goal.designator::check_selectors-returns-in_err-found
designator::check_selectors-returns-in_err-found g t c =
    passed _ (denoted_of (headings_in c.args.env.now)) _ _ _ c.from_residual.ensures.1
    (stops_as _ _ _ (c.loop-selector.invariant
    ∙ (desigs.selectors_next (scene_of c.args.env.now c.args.place)
    (of_value c.loop-selector.slot (denoted_in (headings_in c.args.env.now) c.loop-selector.found)) c.loop-selector.selector-index
    c.args.more.now c.selector-item.result c.loop-selector-test.true c.selector-item.is))
    (desigs.selectors_stops (scene_of c.args.env.now c.args.place)
    (view.selectors_of (drop (c.loop-selector.selector-index + 1) c.args.more.now)) _ _ c.in_err-found.ensures))

pub designator::check_selectors-returns : goal.designator::check_selectors-returns
designator::check_selectors-returns g t c =
    c.loop-selector.invariant ∙ desigs.selectors_end (scene_of c.args.env.now c.args.place)
    (of_value c.loop-selector.slot (denoted_in (headings_in c.args.env.now) c.loop-selector.found)) c.loop-selector.selector-index
    c.args.more.now c.loop-selector-test.false

pub designator::check_selector-returns-in-Field : goal.designator::check_selector-returns-in-Field
designator::check_selector-returns-in-Field g t c =
    rw (
      c.in-Field.is,
      desigs.field_at_is (scene_of c.args.env.now c.args.place)
          (of_value c.args.slot.now (denoted_in (headings_in c.args.env.now) c.args.found)) c.in-Field.node
          (view.view_name c.in-Field.name),
    )
    (rw c.text.ensures at (c.join_field.ensures c.args.slot.now))

pub designator::check_selector-returns-in-Index : goal.designator::check_selector-returns-in-Index
designator::check_selector-returns-in-Index g t c =
    rw (
      c.in-Index.is,
      desigs.index_at_is (scene_of c.args.env.now c.args.place)
          (of_value c.args.slot.now (denoted_in (headings_in c.args.env.now) c.args.found)) c.in-Index.node
          (view.view_exprs c.in-Index.indices),
    ) (c.join_array.ensures _ _ c.check_indices-part.ensures)

pub designator::check_indices-returns-in_err-part : goal.designator::check_indices-returns-in_err-part
designator::check_indices-returns-in_err-part g t c =
    passed _ (denoted_of (headings_in c.args.env.now)) _ _ _ c.from_residual.ensures.1
    (rw (desigs.indices_at (scene_of c.args.env.now c.args.place)
    (of_value c.args.slot.now (denoted_in (headings_in c.args.env.now) c.args.found)) c.args.indices.now)
    (desigs.index_tail_stops (scene_of c.args.env.now c.args.place) _ _ _ (rw c.deref.ensures at c.in_err-part.ensures)))

pub designator::check_indices-loop-index-init : goal.designator::check_indices-loop-index-init
designator::check_indices-loop-index-init g t c =
    desigs.indices_at (scene_of c.args.env.now c.args.place)
    (of_value c.args.slot.now (denoted_in (headings_in c.args.env.now) c.args.found)) c.args.indices.now
    ∙ ap (λ (j : Judgement parts.Denotation). walk.judge_index_tail (scene_of c.args.env.now c.args.place) j
    (view.exprs_of (dx.out-Exprs c.args.indices.now).more.items)) (rw c.deref.ensures at c.in_ok-part.ensures)

pub designator::check_indices-loop-index-preserved : goal.designator::check_indices-loop-index-preserved
designator::check_indices-loop-index-preserved g t c =
    c.loop-index.invariant ∙ (desigs.index_next (scene_of c.args.env.now c.args.place)
    (of_value c.loop-index.slot (denoted_in (headings_in c.args.env.now) c.loop-index.part)) c.loop-index.index-index
    (dx.out-Exprs c.args.indices.now).more.items c.index-item.result (rw c.deref-index-items.ensures.value at c.loop-index-test.true)
    (rw c.deref-index-items.ensures.value at c.index-item.is))
    ∙ ap (λ (j : Judgement parts.Denotation). walk.judge_index_tail (scene_of c.args.env.now c.args.place) j
    (view.exprs_of (drop (c.loop-index.index-index + 1) (dx.out-Exprs c.args.indices.now).more.items))) c.in_ok-part-2.ensures

pub designator::check_indices-returns-in_err-part-2 : goal.designator::check_indices-returns-in_err-part-2
designator::check_indices-returns-in_err-part-2 g t c =
    passed _ (denoted_of (headings_in c.args.env.now)) _ _ _ c.from_residual-in_err-part-2.ensures.1
    (stops_as _ _ _ (c.loop-index.invariant ∙ (desigs.index_next (scene_of c.args.env.now c.args.place)
    (of_value c.loop-index.slot (denoted_in (headings_in c.args.env.now) c.loop-index.part)) c.loop-index.index-index
    (dx.out-Exprs c.args.indices.now).more.items c.index-item.result (rw c.deref-index-items.ensures.value at c.loop-index-test.true)
    (rw c.deref-index-items.ensures.value at c.index-item.is)))
    (desigs.index_tail_stops (scene_of c.args.env.now c.args.place)
    (view.exprs_of (drop (c.loop-index.index-index + 1) (dx.out-Exprs c.args.indices.now).more.items)) _ _ c.in_err-part-2.ensures))

pub designator::check_indices-returns : goal.designator::check_indices-returns
designator::check_indices-returns g t c =
    c.loop-index.invariant ∙ desigs.index_end (scene_of c.args.env.now c.args.place)
    (of_value c.loop-index.slot (denoted_in (headings_in c.args.env.now) c.loop-index.part)) c.loop-index.index-index
    (dx.out-Exprs c.args.indices.now).more.items (rw c.deref-index-items.ensures.value at c.loop-index-test.false)

pub designator::check_index-returns : goal.designator::check_index-returns
designator::check_index-returns g t c =
    let judged = walk.judge_expr (scene_of c.args.env.now c.args.place) c.args.slot.now (view.view_expr c.args.index.now) in
    let found = of_value c.args.slot.now (denoted_in (headings_in c.args.env.now) c.args.found) in
    answers_as _ _ (denoted_of (headings_in c.args.env.now)) _ _
    (indexed_same c.args.env.now c.args.place found (tree.expr_node (view.view_expr c.args.index.now)) judged
    ∙ ap (λ k. nodes.index_at (scene_of c.args.env.now somewhere) found k judged) (node_is c.args.index.now))
    (c.join_index.ensures judged c.args.slot.now _ c.check_expr-typed.ensures)

pub call::check_named-returns-in-None : goal.call::check_named-returns-in-None
call::check_named-returns-in-None g t c =
    rw (c.in-None.is, exprs.value_at (scene_of c.args.env.now c.args.place) c.args.slot.now c.args.node (view.view_desig c.args.desig.now))
    (c.join_value.ensures _ _ c.check_desig-found.ensures)

pub call::check_named-returns-in_err-callee-in-Some : goal.call::check_named-returns-in_err-callee-in-Some
call::check_named-returns-in_err-callee-in-Some g t c =
    passed _ typing_of _ _ _ c.from_residual.ensures.1
    (rw c.in-Some.is (exprs.call_stops (scene_of c.args.env.now c.args.place) c.args.slot.now c.args.node (view.view_desig c.args.desig.now)
    (dg.out-Args c.in-Some.args).values _ (c.in_err-callee-in-Some.ensures _ _ c.check_desig-found-in-Some.ensures)))

pub call::check_named-returns-in-None-values : goal.call::check_named-returns-in-None-values
call::check_named-returns-in-None-values g t c =
    rw (
      c.in-Some.is,
      c.in-None-values.is,
      exprs.call_none (scene_of c.args.env.now c.args.place) c.args.slot.now c.args.node _
          (view.view_desig c.args.desig.now) (callee_in (headings_in c.args.env.now) c.in_ok-callee-in-Some.callee)
          (c.in_ok-callee-in-Some.ensures (walk.judge_desig (scene_of c.args.env.now c.args.place) c.args.slot.now uses.as_procedure
          (view.view_desig c.args.desig.now)) _ c.check_desig-found-in-Some.ensures),
    )
    (c.join_call.ensures (fine c.check_desig-found-in-Some.new.slot ir.no_args) c.check_desig-found-in-Some.new.slot
    c.check_desig-found-in-Some.new.slot (ap (λ a. of_value c.check_desig-found-in-Some.new.slot (Some (args_list a)))
    (sym c.new.ensures.items)))

pub call::check_named-returns-in-Some-values : goal.call::check_named-returns-in-Some-values
call::check_named-returns-in-Some-values g t c =
    rw (
      c.in-Some.is,
      c.in-Some-values.is,
      exprs.call_some (scene_of c.args.env.now c.args.place) c.args.slot.now c.args.node _
          (view.view_desig c.args.desig.now) (view.view_exprs c.in-Some-values.values)
          (callee_in (headings_in c.args.env.now) c.in_ok-callee-in-Some.callee)
          (c.in_ok-callee-in-Some.ensures (walk.judge_desig (scene_of c.args.env.now c.args.place) c.args.slot.now uses.as_procedure
          (view.view_desig c.args.desig.now)) _ c.check_desig-found-in-Some.ensures),
      calls.count_at (scene_of c.args.env.now c.args.place) c.in-Some-values.values,
      length_is (dx.out-Exprs c.in-Some-values.values).more
          ∙ sym c.len.ensures,
    ) (c.join_call-in-Some-values.ensures
    (walk.judge_arguments (scene_of c.args.env.now c.args.place) c.check_desig-found-in-Some.new.slot
    (nodes.formals_of (callee_in (headings_in c.args.env.now) c.in_ok-callee-in-Some.callee)) (view.view_exprs c.in-Some-values.values))
    c.check_desig-found-in-Some.new.slot c.check_arguments-args.new.slot c.check_arguments-args.ensures)

pub parens::check_parens-returns-then-not-is_empty : goal.parens::check_parens-returns-then-not-is_empty
parens::check_parens-returns-then-not-is_empty g t c =
    rw (exprs.paren_more (scene_of c.args.env.now c.args.place) c.args.slot.now c.args.node c.args.body.now
    (some_by c.args.body.now.more (sym c.is_empty.ensures ∙ c.if-not-is_empty.true))) c.check_sequence.ensures

pub parens::check_parens-returns-in-Value : goal.parens::check_parens-returns-in-Value
parens::check_parens-returns-in-Value g t c =
    rw (exprs.paren_value (scene_of c.args.env.now c.args.place) c.args.slot.now c.args.node c.in-Value.node c.args.body.now
    c.in-Value.value (empty_by c.args.body.now.more (sym c.is_empty.ensures ∙ c.if-not-is_empty.false))
    (sym c.deref.ensures ∙ c.in-Value.is)) (c.join_parens.ensures _ _ c.check_expr-typed.ensures)

pub parens::check_parens-returns-in_default : goal.parens::check_parens-returns-in_default
parens::check_parens-returns-in_default g t c =
    rw (exprs.paren_other (scene_of c.args.env.now c.args.place) c.args.slot.now c.args.node c.args.body.now
    (empty_by c.args.body.now.more (sym c.is_empty.ensures ∙ c.if-not-is_empty.false))
    (λ m e h. c.in_default.not-Value m e (c.deref.ensures ∙ h))) c.check_sequence-in_default.ensures

pub call::check_arguments-returns-in_err-kept : goal.call::check_arguments-returns-in_err-kept
call::check_arguments-returns-in_err-kept g t c =
    passed _ args_of _ _ _ c.from_residual.ensures.1
    (stops_as _ _ _ (calls.arguments_begin (scene_of c.args.env.now c.args.place) c.args.slot.now
    (nodes.formals_of (callee_in (headings_in c.args.env.now) c.args.callee)) c.args.values.now
    (option_map formal_view c.formal_of-formal.result) (args_in (Some c.new.result)) c.formal_of-formal.ensures
    (ap (λ l. Some (args_list l)) c.new.ensures.items))
    (c.in_err-kept.ensures (calls.argument (scene_of c.args.env.now c.args.place) c.args.slot.now
    (option_map formal_view c.formal_of-formal.result) (dx.out-Exprs c.args.values.now).first.value) _
    (λ m. walk.judge_argument_tail (scene_of c.args.env.now c.args.place) m
    (drop 1 (nodes.formals_of (callee_in (headings_in c.args.env.now) c.args.callee)))
    (view.exprs_of (dx.out-Exprs c.args.values.now).more.items)) (rw c.deref.ensures at c.check_argument-first.ensures)))

pub call::check_arguments-loop-value-init : goal.call::check_arguments-loop-value-init
call::check_arguments-loop-value-init g t c = (
  refl,
  calls.arguments_begin (scene_of c.args.env.now c.args.place) c.args.slot.now
      (nodes.formals_of (callee_in (headings_in c.args.env.now) c.args.callee)) c.args.values.now
      (option_map formal_view c.formal_of-formal.result) (args_in (Some c.new.result)) c.formal_of-formal.ensures
      (ap (λ l. Some (args_list l)) c.new.ensures.items)
      ∙ c.in_ok-kept.ensures (calls.argument (scene_of c.args.env.now c.args.place) c.args.slot.now
      (option_map formal_view c.formal_of-formal.result) (dx.out-Exprs c.args.values.now).first.value) _
      (λ m. walk.judge_argument_tail (scene_of c.args.env.now c.args.place) m
      (drop 1 (nodes.formals_of (callee_in (headings_in c.args.env.now) c.args.callee)))
      (view.exprs_of (dx.out-Exprs c.args.values.now).more.items)) (rw c.deref.ensures at c.check_argument-first.ensures),
)

pub call::check_arguments-loop-value-preserved : goal.call::check_arguments-loop-value-preserved
call::check_arguments-loop-value-preserved g t c = (
  omega arith,
  c.loop-value.invariant.1 ∙ ap (onward_args (args_in c.loop-value.kept))
      (calls.arguments_turn (scene_of c.args.env.now c.args.place) c.loop-value.slot c.loop-value.value-index
      (nodes.formals_of (callee_in (headings_in c.args.env.now) c.args.callee)) (dx.out-Exprs c.args.values.now).more.items
      c.value-item.result (option_map formal_view c.formal_of-formal-in-loop-value.result)
      (rw c.deref-value-items.ensures.value at c.loop-value-test.true) (rw c.deref-value-items.ensures.value at c.value-item.is)
      (c.formal_of-formal-in-loop-value.ensures
      ∙ ap (λ i. slice_get (nodes.formals_of (callee_in (headings_in c.args.env.now) c.args.callee)) (i + 1)) c.loop-value.invariant.0))
      ∙ c.in_ok-kept-2.ensures (calls.argument (scene_of c.args.env.now c.args.place) c.loop-value.slot
      (option_map formal_view c.formal_of-formal-in-loop-value.result) c.value-item.result) _
      (λ m. walk.judge_argument_tail (scene_of c.args.env.now c.args.place) m
      (drop (c.loop-value.value-index + 1 + 1) (nodes.formals_of (callee_in (headings_in c.args.env.now) c.args.callee)))
      (view.exprs_of (drop (c.loop-value.value-index + 1) (dx.out-Exprs c.args.values.now).more.items))) c.check_argument-arg.ensures,
)

pub call::check_arguments-returns-in_err-kept-2 : goal.call::check_arguments-returns-in_err-kept-2
call::check_arguments-returns-in_err-kept-2 g t c =
    passed _ args_of _ _ _ c.from_residual-in_err-kept-2.ensures.1
    (stops_as _ _ _ (c.loop-value.invariant.1
    ∙ ap (onward_args (args_in c.loop-value.kept))
    (calls.arguments_turn (scene_of c.args.env.now c.args.place) c.loop-value.slot c.loop-value.value-index
    (nodes.formals_of (callee_in (headings_in c.args.env.now) c.args.callee)) (dx.out-Exprs c.args.values.now).more.items
    c.value-item.result (option_map formal_view c.formal_of-formal-in-loop-value.result)
    (rw c.deref-value-items.ensures.value at c.loop-value-test.true) (rw c.deref-value-items.ensures.value at c.value-item.is)
    (c.formal_of-formal-in-loop-value.ensures
    ∙ ap (λ i. slice_get (nodes.formals_of (callee_in (headings_in c.args.env.now) c.args.callee)) (i + 1)) c.loop-value.invariant.0)))
    (c.in_err-kept-2.ensures (calls.argument (scene_of c.args.env.now c.args.place) c.loop-value.slot
    (option_map formal_view c.formal_of-formal-in-loop-value.result) c.value-item.result) _
    (λ m. walk.judge_argument_tail (scene_of c.args.env.now c.args.place) m
    (drop (c.loop-value.value-index + 1 + 1) (nodes.formals_of (callee_in (headings_in c.args.env.now) c.args.callee)))
    (view.exprs_of (drop (c.loop-value.value-index + 1) (dx.out-Exprs c.args.values.now).more.items))) c.check_argument-arg.ensures))

pub call::check_arguments-returns : goal.call::check_arguments-returns
call::check_arguments-returns g t c =
    c.loop-value.invariant.1 ∙ ap (onward_args (args_in c.loop-value.kept))
    (exprs.arguments_end (scene_of c.args.env.now c.args.place) c.loop-value.slot c.loop-value.value-index _
    (dx.out-Exprs c.args.values.now).more.items (rw c.deref-value-items.ensures.value at c.loop-value-test.false))
    ∙ onward_end append_args ir.no_args (args_in c.loop-value.kept) c.loop-value.slot args_last

pub call::check_argument-returns-in_err-kind : goal.call::check_argument-returns-in_err-kind
call::check_argument-returns-in_err-kind g t c = no_memory _ arg_of _ _ c.from_residual.ensures.1

pub call::check_argument-returns : goal.call::check_argument-returns
call::check_argument-returns g t c =
    rw (node_is c.args.value.now, kind_same c.args.env.now c.args.place (view.view_expr c.args.value.now), sym c.in_ok-kind.ensures)
    (c.join_argument.ensures (walk.judge_expr (scene_of c.args.env.now c.args.place) c.args.slot.now (view.view_expr c.args.value.now)) _
    c.check_expr-typed.ensures)

pub expression::check_expr-check_simple-requires : goal.expression::check_expr-check_simple-requires
expression::check_expr-check_simple-requires g t c κs within =
    (omega (arith, c.decreases, sizes.expr_left c.args.expr.now), (search rules, c.requires.judges))

pub expression::check_expr-check_simple-right-requires : goal.expression::check_expr-check_simple-right-requires
expression::check_expr-check_simple-right-requires g t c κs within = (
  omega (
    arith,
    c.decreases,
    sizes.expr_right c.args.expr.now c.in-Some.compared c.in-Some.is,
    ap (λ k. di.size-Simple (dc.out-Compared k).right) c.deref.ensures,
  ),
  (search rules, c.requires.judges),
)

pub expression::check_simple-check_term-requires : goal.expression::check_simple-check_term-requires
expression::check_simple-check_term-requires g t c κs within =
    (omega (arith, c.decreases, sizes.simple_first c.args.simple.now, ap dm.size-Term c.deref-2.ensures), (search rules, c.requires.judges))

pub expression::check_simple-check_terms-rest-requires : goal.expression::check_simple-check_terms-rest-requires
expression::check_simple-check_terms-rest-requires g t c κs within = (
  omega (arith, c.decreases, sizes.simple_more c.args.simple.now, ap (most dk.size-AddLink) c.deref-3.ensures.value),
  (search rules, c.requires.judges),
)

pub expression::check_terms-check_term-typed-requires : goal.expression::check_terms-check_term-typed-requires
expression::check_terms-check_term-typed-requires g t c κs within = (
  omega (
    arith,
    c.decreases,
    at_most dk.size-AddLink c.args.more.now c.loop-link.link-index c.link-item.result c.loop-link-test.true,
    ap dk.size-AddLink c.link-item.is,
    sizes.add_operand c.link-item.result,
  ),
  (search rules, c.requires.judges),
)

pub expression::check_term-check_factor-requires : goal.expression::check_term-check_factor-requires
expression::check_term-check_factor-requires g t c κs within =
    (omega (arith, c.decreases, sizes.term_first c.args.term.now), (search rules, c.requires.judges))

pub expression::check_term-check_factors-rest-requires : goal.expression::check_term-check_factors-rest-requires
expression::check_term-check_factors-rest-requires g t c κs within = (
  omega (arith, c.decreases, sizes.term_more c.args.term.now, ap (most dn.size-MulLink) c.deref-2.ensures.value),
  (search rules, c.requires.judges),
)

pub expression::check_factors-check_factor-typed-requires : goal.expression::check_factors-check_factor-typed-requires
expression::check_factors-check_factor-typed-requires g t c κs within = (
  omega (
    arith,
    c.decreases,
    at_most dn.size-MulLink c.args.more.now c.loop-link.link-index c.link-item.result c.loop-link-test.true,
    ap dn.size-MulLink c.link-item.is,
    sizes.mul_operand c.link-item.result,
  ),
  (search rules, c.requires.judges),
)

pub expression::check_factor-check_primary-typed-requires : goal.expression::check_factor-check_primary-typed-requires
expression::check_factor-check_primary-typed-requires g t c κs within =
    (omega (arith, c.decreases, ap dr.size-Factor c.in-Not.is ∙ views.sized-Not _ _), (search rules, c.requires.judges))

pub expression::check_factor-check_primary-typed-requires-in-Plain : goal.expression::check_factor-check_primary-typed-requires-in-Plain
expression::check_factor-check_primary-typed-requires-in-Plain g t c κs within =
    (omega (arith, c.decreases, ap dr.size-Factor c.in-Plain.is ∙ views.sized-Plain _ _), (search rules, c.requires.judges))

pub expression::check_primary-check_named-requires : goal.expression::check_primary-check_named-requires
expression::check_primary-check_named-requires g t c κs within =
    (omega (arith, c.decreases, ap dp.size-Primary c.in-Desig.is ∙ views.sized-Desig _ _ _), (search rules, c.requires.judges))

pub expression::check_primary-check_parens-requires : goal.expression::check_primary-check_parens-requires
expression::check_primary-check_parens-requires g t c κs within = (
  omega (arith, c.decreases, ap dp.size-Primary c.in-Paren.is ∙ views.sized-Paren _ _, ap ds.size-Stmts c.deref.ensures),
  (search rules, c.requires.judges),
)

pub expression::check_primary-check_desig-found-requires : goal.expression::check_primary-check_desig-found-requires
expression::check_primary-check_desig-found-requires g t c κs within =
    (omega (arith, c.decreases, ap dp.size-Primary c.in-Known.is ∙ views.sized-Known _ _), (search rules, c.requires.judges))

pub expression::check_primary-check_expr-typed-requires : goal.expression::check_primary-check_expr-typed-requires
expression::check_primary-check_expr-typed-requires g t c κs within = (
  omega (arith, c.decreases, ap dp.size-Primary c.in-Ord.is ∙ views.sized-Ord _ _, ap de.size-Expr c.deref-in-Ord.ensures),
  (search rules, c.requires.judges),
)

pub expression::check_primary-check_expr-typed-requires-in-Chr : goal.expression::check_primary-check_expr-typed-requires-in-Chr
expression::check_primary-check_expr-typed-requires-in-Chr g t c κs within = (
  omega (arith, c.decreases, ap dp.size-Primary c.in-Chr.is ∙ views.sized-Chr _ _, ap de.size-Expr c.deref-in-Chr.ensures),
  (search rules, c.requires.judges),
)

pub call::check_named-check_desig-found-requires : goal.call::check_named-check_desig-found-requires
call::check_named-check_desig-found-requires g t c κs within = (omega (arith, c.decreases), (search rules, c.requires.judges))

pub call::check_named-check_desig-found-requires-in-Some : goal.call::check_named-check_desig-found-requires-in-Some
call::check_named-check_desig-found-requires-in-Some g t c κs within = (omega (arith, c.decreases), (search rules, c.requires.judges))

pub call::check_named-check_arguments-args-requires : goal.call::check_named-check_arguments-args-requires
call::check_named-check_arguments-args-requires g t c κs within = (
  omega (
    arith,
    c.decreases,
    ap (shapes.weighed-Primary-Desig-2.weight _ dg.size-Args) c.in-Some.is,
    sizes.args_values c.in-Some.args c.in-Some-values.values c.in-Some-values.is,
  ),
  (search rules, c.requires.judges),
)

pub call::check_arguments-check_argument-first-requires : goal.call::check_arguments-check_argument-first-requires
call::check_arguments-check_argument-first-requires g t c κs within =
    (omega (arith, c.decreases, sizes.exprs_first c.args.values.now, ap de.size-Expr c.deref.ensures), (search rules, c.requires.judges))

pub call::check_arguments-check_argument-arg-requires : goal.call::check_arguments-check_argument-arg-requires
call::check_arguments-check_argument-arg-requires g t c κs within = (
  omega (
    arith,
    c.decreases,
    at_most de.size-Expr c.deref-value-items.result.now c.loop-value.value-index c.value-item.result
        c.loop-value-test.true,
    ap de.size-Expr c.value-item.is,
    ap (most de.size-Expr) c.deref-value-items.ensures.value,
    sizes.exprs_more c.args.values.now,
  ),
  (search rules, c.requires.judges),
)

pub call::check_argument-check_expr-typed-requires : goal.call::check_argument-check_expr-typed-requires
call::check_argument-check_expr-typed-requires g t c κs within = (omega (arith, c.decreases), (search rules, c.requires.judges))

pub parens::check_parens-check_expr-typed-requires : goal.parens::check_parens-check_expr-typed-requires
parens::check_parens-check_expr-typed-requires g t c κs within = (
  omega (
    arith,
    c.decreases,
    sizes.stmts_first c.args.body.now,
    ap dt.size-Stmt c.deref.ensures,
    ap dt.size-Stmt c.in-Value.is
        ∙ views.sized-Value _ _,
  ),
  (search rules, c.requires.judges),
)

pub designator::check_desig-check_selectors-part-requires : goal.designator::check_desig-check_selectors-part-requires
designator::check_desig-check_selectors-part-requires g t c κs within = (
  omega (arith, c.decreases, sizes.desig_more c.args.desig.now, ap (most dj.size-Selector) c.deref.ensures.value),
  (search rules, c.requires.judges),
)

pub designator::check_selectors-check_selector-requires : goal.designator::check_selectors-check_selector-requires
designator::check_selectors-check_selector-requires g t c κs within = (
  omega (
    arith,
    c.decreases,
    at_most dj.size-Selector c.args.more.now c.loop-selector.selector-index c.selector-item.result
        c.loop-selector-test.true,
    ap dj.size-Selector c.selector-item.is,
  ),
  (search rules, c.requires.judges),
)

pub designator::check_selector-check_indices-part-requires : goal.designator::check_selector-check_indices-part-requires
designator::check_selector-check_indices-part-requires g t c κs within =
    (omega (arith, c.decreases, ap dj.size-Selector c.in-Index.is ∙ views.sized-Index _ _), (search rules, c.requires.judges))

pub designator::check_indices-check_index-requires : goal.designator::check_indices-check_index-requires
designator::check_indices-check_index-requires g t c κs within =
    (omega (arith, c.decreases, sizes.exprs_first c.args.indices.now, ap de.size-Expr c.deref.ensures), (search rules, c.requires.judges))

pub designator::check_indices-check_index-requires-in-loop-index : goal.designator::check_indices-check_index-requires-in-loop-index
designator::check_indices-check_index-requires-in-loop-index g t c κs within = (
  omega (
    arith,
    c.decreases,
    at_most de.size-Expr c.deref-index-items.result.now c.loop-index.index-index c.index-item.result
        c.loop-index-test.true,
    ap de.size-Expr c.index-item.is,
    ap (most de.size-Expr) c.deref-index-items.ensures.value,
    sizes.exprs_more c.args.indices.now,
  ),
  (search rules, c.requires.judges),
)

pub designator::check_index-check_expr-typed-requires : goal.designator::check_index-check_expr-typed-requires
designator::check_index-check_expr-typed-requires g t c κs within = (omega (arith, c.decreases), (search rules, c.requires.judges))
