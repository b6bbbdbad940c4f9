use Rattle.std.proofs.Common.{◌≡◌, ◌+◌, ◌*◌, max, drop}
use denote.Param.Weighed.{most}
use Rattle.alma_tree.specs.declared.phrase.Stmts as ds
use Rattle.alma_tree.specs.declared.phrase.Arm.TheShapes as shapes
use Rattle.alma_tree.specs.declared.phrase.Expr as de
use Rattle.alma_tree.specs.declared.phrase.Simple as di
use Rattle.alma_tree.specs.declared.phrase.AddLink as dk
use Rattle.alma_tree.specs.declared.phrase.Term as dm
use Rattle.alma_tree.specs.declared.phrase.MulLink as dn
use Rattle.alma_tree.specs.declared.phrase.Factor as dr
use Rattle.alma_tree.specs.declared.phrase.Primary as dp
use Rattle.alma_tree.specs.declared.phrase.Args as dg
use Rattle.alma_tree.specs.declared.phrase.Exprs as dx
use Rattle.alma_tree.specs.declared.phrase.Desig as dd
use Rattle.alma_tree.specs.declared.phrase.Selector as dj
use Rattle.alma_rules.specs.View as view
use Rattle.alma_rules.specs.Judgement.{of_value}
use Rattle.alma_rules.specs.Nodes as nodes
use Rattle.alma_rules.specs.Walk as walk
use Rattle.alma_check_rules.specs.Views.{scene_of, headings_in, denoted_in, operands_in, args_in, callee_in}
use Rattle.alma_check_join_stmt.specs.Onward.{onward_operands, onward_args}
use Rattle.alma_check_phrases.proofs.+values.Given as goal

-- Measures: eight times the depth, and up to three more where a phrase is passed on as it is; then what each loop has judged so far.

abbrev pub decreases-expression::check_expr : goal.decreases-expression::check_expr
decreases-expression::check_expr g l = 8 * (de.size-Expr l.expr.now)

abbrev pub decreases-expression::check_simple : goal.decreases-expression::check_simple
decreases-expression::check_simple g l = 8 * (di.size-Simple l.simple.now)

abbrev pub decreases-expression::check_terms : goal.decreases-expression::check_terms
decreases-expression::check_terms g l = 8 * (most dk.size-AddLink l.more.now) + 1

abbrev pub decreases-expression::check_term : goal.decreases-expression::check_term
decreases-expression::check_term g l = 8 * (dm.size-Term l.term.now)

abbrev pub decreases-expression::check_factors : goal.decreases-expression::check_factors
decreases-expression::check_factors g l = 8 * (most dn.size-MulLink l.more.now) + 1

abbrev pub decreases-expression::check_factor : goal.decreases-expression::check_factor
decreases-expression::check_factor g l = 8 * (dr.size-Factor l.factor.now)

abbrev pub decreases-expression::check_primary : goal.decreases-expression::check_primary
decreases-expression::check_primary g l = 8 * (dp.size-Primary l.primary.now)

abbrev pub decreases-call::check_named : goal.decreases-call::check_named
decreases-call::check_named g l = 8 * (max (dd.size-Desig l.desig.now) (shapes.weighed-Primary-Desig-2.weight _ dg.size-Args l.args.now))
    + 3

abbrev pub decreases-call::check_arguments : goal.decreases-call::check_arguments
decreases-call::check_arguments g l = 8 * (dx.size-Exprs l.values.now) + 1

abbrev pub decreases-call::check_argument : goal.decreases-call::check_argument
decreases-call::check_argument g l = 8 * (de.size-Expr l.value.now) + 1

abbrev pub decreases-parens::check_parens : goal.decreases-parens::check_parens
decreases-parens::check_parens g l = 8 * (ds.size-Stmts l.body.now) + 2

abbrev pub decreases-designator::check_desig : goal.decreases-designator::check_desig
decreases-designator::check_desig g l = 8 * (dd.size-Desig l.desig.now)

abbrev pub decreases-designator::check_selectors : goal.decreases-designator::check_selectors
decreases-designator::check_selectors g l = 8 * (most dj.size-Selector l.more.now) + 1

abbrev pub decreases-designator::check_selector : goal.decreases-designator::check_selector
decreases-designator::check_selector g l = 8 * (dj.size-Selector l.selector.now)

abbrev pub decreases-designator::check_indices : goal.decreases-designator::check_indices
decreases-designator::check_indices g l = 8 * (dx.size-Exprs l.indices.now)

abbrev pub decreases-designator::check_index : goal.decreases-designator::check_index
decreases-designator::check_index g l = 8 * (de.size-Expr l.index.now) + 1

abbrev pub invariant-expression::check_terms-loop-link : goal.invariant-expression::check_terms-loop-link
invariant-expression::check_terms-loop-link g l =
    walk.judge_terms (scene_of l.env l.place) l.fn.slot l.sort (view.terms_of l.more) ≡ onward_operands (operands_in l.kept)
    (walk.judge_terms (scene_of l.env l.place) l.slot l.sort (view.terms_of (drop l.link-index l.more)))

abbrev pub invariant-expression::check_factors-loop-link : goal.invariant-expression::check_factors-loop-link
invariant-expression::check_factors-loop-link g l =
    walk.judge_factors (scene_of l.env l.place) l.fn.slot l.sort (view.factors_of l.more) ≡ onward_operands (operands_in l.kept)
    (walk.judge_factors (scene_of l.env l.place) l.slot l.sort (view.factors_of (drop l.link-index l.more)))

abbrev pub invariant-call::check_arguments-loop-value : goal.invariant-call::check_arguments-loop-value
invariant-call::check_arguments-loop-value g l =
    (l.index ≡ l.value-index) × (walk.judge_arguments (scene_of l.env l.place) l.fn.slot
    (nodes.formals_of (callee_in (headings_in l.env) l.callee)) (view.view_exprs l.values)
    ≡ onward_args (args_in l.kept) (walk.judge_argument_tail (scene_of l.env l.place) l.slot
    (drop (l.value-index + 1) (nodes.formals_of (callee_in (headings_in l.env) l.callee)))
    (view.exprs_of (drop l.value-index (dx.out-Exprs l.values).more.items))))

abbrev pub invariant-designator::check_selectors-loop-selector : goal.invariant-designator::check_selectors-loop-selector
invariant-designator::check_selectors-loop-selector g l =
    walk.judge_selectors (scene_of l.env l.place) (of_value l.fn.slot (denoted_in (headings_in l.env) l.fn.start))
    (view.selectors_of l.more)
    ≡ walk.judge_selectors (scene_of l.env l.place) (of_value l.slot (denoted_in (headings_in l.env) l.found))
    (view.selectors_of (drop l.selector-index l.more))

abbrev pub invariant-designator::check_indices-loop-index : goal.invariant-designator::check_indices-loop-index
invariant-designator::check_indices-loop-index g l =
    walk.judge_indices (scene_of l.env l.place) (of_value l.fn.slot (denoted_in (headings_in l.env) l.fn.found)) (view.view_exprs l.indices)
    ≡ walk.judge_index_tail (scene_of l.env l.place) (of_value l.slot (denoted_in (headings_in l.env) l.part))
    (view.exprs_of (drop l.index-index (dx.out-Exprs l.indices).more.items))
