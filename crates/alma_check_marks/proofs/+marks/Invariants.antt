use Rattle.std.proofs.Common.{◌+◌, ◌*◌, max, drop}
use denote.Param.Weighed.{most}
use Rattle.alma_tree.specs.declared.phrase.Stmts as ds
use Rattle.alma_tree.specs.declared.phrase.Elsif as df
use Rattle.alma_tree.specs.declared.phrase.Arm as da
use Rattle.alma_tree.specs.declared.phrase.Arm.TheShapes as shapes
use Rattle.alma_tree.specs.declared.phrase.Label as dl
use Rattle.alma_tree.specs.declared.phrase.Expr as de
use Rattle.alma_tree.specs.declared.phrase.Args as dg
use Rattle.alma_tree.specs.declared.phrase.Desig as dd
use Rattle.alma_rules.specs.Places as places
use Rattle.alma_rules.specs.View as view
use Rattle.alma_check_marks.specs.Marking.{marks_of}
use Rattle.alma_check_marks.proofs.Steps.{Rests}
use Rattle.alma_check_marks.proofs.+marks.Given as goal

abbrev pub decreases-expression::mark_expr : goal.decreases-expression::mark_expr
decreases-expression::mark_expr l = 3 * goal.size-expression::mark_expr l

abbrev pub decreases-expression::mark_compared : goal.decreases-expression::mark_compared
decreases-expression::mark_compared l = 3 * goal.size-expression::mark_compared l + 1

abbrev pub decreases-expression::mark_simple : goal.decreases-expression::mark_simple
decreases-expression::mark_simple l = 3 * goal.size-expression::mark_simple l

abbrev pub decreases-expression::mark_terms : goal.decreases-expression::mark_terms
decreases-expression::mark_terms l = 3 * goal.size-expression::mark_terms l + 1

abbrev pub decreases-expression::mark_term : goal.decreases-expression::mark_term
decreases-expression::mark_term l = 3 * goal.size-expression::mark_term l

abbrev pub decreases-expression::mark_factors : goal.decreases-expression::mark_factors
decreases-expression::mark_factors l = 3 * goal.size-expression::mark_factors l + 1

abbrev pub decreases-expression::mark_factor : goal.decreases-expression::mark_factor
decreases-expression::mark_factor l = 3 * goal.size-expression::mark_factor l

abbrev pub decreases-expression::mark_primary : goal.decreases-expression::mark_primary
decreases-expression::mark_primary l = 3 * goal.size-expression::mark_primary l

abbrev pub decreases-expression::mark_named : goal.decreases-expression::mark_named
decreases-expression::mark_named l = 3 * (max (dd.size-Desig l.desig.now) (shapes.weighed-Primary-Desig-2.weight _ dg.size-Args l.args.now))
    + 2

abbrev pub decreases-expression::mark_paren : goal.decreases-expression::mark_paren
decreases-expression::mark_paren l = 3 * goal.size-expression::mark_paren l + 2

abbrev pub decreases-expression::mark_inside : goal.decreases-expression::mark_inside
decreases-expression::mark_inside l = 3 * goal.size-expression::mark_inside l + 1

abbrev pub decreases-expression::mark_only : goal.decreases-expression::mark_only
decreases-expression::mark_only l = 3 * goal.size-expression::mark_only l + 1

abbrev pub decreases-expression::mark_known : goal.decreases-expression::mark_known
decreases-expression::mark_known l = 3 * goal.size-expression::mark_known l + 2

abbrev pub decreases-expression::mark_converted : goal.decreases-expression::mark_converted
decreases-expression::mark_converted l = 3 * goal.size-expression::mark_converted l + 2

abbrev pub decreases-expression::mark_args : goal.decreases-expression::mark_args
decreases-expression::mark_args l = 3 * goal.size-expression::mark_args l + 1

abbrev pub decreases-expression::mark_values : goal.decreases-expression::mark_values
decreases-expression::mark_values l = 3 * goal.size-expression::mark_values l + 1

abbrev pub decreases-expression::mark_exprs : goal.decreases-expression::mark_exprs
decreases-expression::mark_exprs l = 3 * goal.size-expression::mark_exprs l

abbrev pub decreases-expression::mark_expr_tail : goal.decreases-expression::mark_expr_tail
decreases-expression::mark_expr_tail l = 3 * goal.size-expression::mark_expr_tail l + 1

abbrev pub decreases-expression::mark_desig : goal.decreases-expression::mark_desig
decreases-expression::mark_desig l = 3 * goal.size-expression::mark_desig l

abbrev pub decreases-expression::mark_selectors : goal.decreases-expression::mark_selectors
decreases-expression::mark_selectors l = 3 * goal.size-expression::mark_selectors l + 1

abbrev pub decreases-expression::mark_selector : goal.decreases-expression::mark_selector
decreases-expression::mark_selector l = 3 * goal.size-expression::mark_selector l

abbrev pub decreases-statement::mark_stmts : goal.decreases-statement::mark_stmts
decreases-statement::mark_stmts l = 3 * goal.size-statement::mark_stmts l

abbrev pub decreases-statement::mark_stmt_tail : goal.decreases-statement::mark_stmt_tail
decreases-statement::mark_stmt_tail l = 3 * goal.size-statement::mark_stmt_tail l + 1

abbrev pub decreases-statement::mark_stmt : goal.decreases-statement::mark_stmt
decreases-statement::mark_stmt l = 3 * goal.size-statement::mark_stmt l

abbrev pub decreases-statement::mark_assign : goal.decreases-statement::mark_assign
decreases-statement::mark_assign l = 3 * (max (dd.size-Desig l.target.now) (de.size-Expr l.value.now)) + 2

abbrev pub decreases-statement::mark_value : goal.decreases-statement::mark_value
decreases-statement::mark_value l = 3 * goal.size-statement::mark_value l + 2

abbrev pub decreases-statement::mark_return : goal.decreases-statement::mark_return
decreases-statement::mark_return l = 3 * goal.size-statement::mark_return l + 2

abbrev pub decreases-statement::mark_returned : goal.decreases-statement::mark_returned
decreases-statement::mark_returned l = 3 * goal.size-statement::mark_returned l + 1

abbrev pub decreases-statement::mark_read : goal.decreases-statement::mark_read
decreases-statement::mark_read l = 3 * (max (dd.size-Desig l.first.now) (most dd.size-Desig l.more.now)) + 2

abbrev pub decreases-statement::mark_desigs : goal.decreases-statement::mark_desigs
decreases-statement::mark_desigs l = 3 * goal.size-statement::mark_desigs l + 1

abbrev pub decreases-statement::mark_write : goal.decreases-statement::mark_write
decreases-statement::mark_write l = 3 * goal.size-statement::mark_write l + 2

abbrev pub decreases-statement::mark_writeln : goal.decreases-statement::mark_writeln
decreases-statement::mark_writeln l = 3 * goal.size-statement::mark_writeln l + 2

abbrev pub decreases-statement::mark_line_items : goal.decreases-statement::mark_line_items
decreases-statement::mark_line_items l = 3 * goal.size-statement::mark_line_items l + 1

abbrev pub decreases-statement::mark_line_values : goal.decreases-statement::mark_line_values
decreases-statement::mark_line_values l = 3 * goal.size-statement::mark_line_values l + 2

abbrev pub decreases-statement::mark_items : goal.decreases-statement::mark_items
decreases-statement::mark_items l = 3 * goal.size-statement::mark_items l + 1

abbrev pub decreases-statement::mark_item_tail : goal.decreases-statement::mark_item_tail
decreases-statement::mark_item_tail l = 3 * goal.size-statement::mark_item_tail l + 1

abbrev pub decreases-form::mark_if : goal.decreases-form::mark_if
decreases-form::mark_if l = 3 * (max (max (de.size-Expr l.test.now) (ds.size-Stmts l.then.now))
    (max (most df.size-Elsif l.elsifs.now) (shapes.weighed-Stmt-If-4.weight _ ds.size-Stmts l.otherwise.now))) + 2

abbrev pub decreases-form::mark_elsifs : goal.decreases-form::mark_elsifs
decreases-form::mark_elsifs l = 3 * goal.size-form::mark_elsifs l + 1

abbrev pub decreases-form::mark_else : goal.decreases-form::mark_else
decreases-form::mark_else l = 3 * goal.size-form::mark_else l + 1

abbrev pub decreases-form::mark_while : goal.decreases-form::mark_while
decreases-form::mark_while l = 3 * (max (de.size-Expr l.test.now) (ds.size-Stmts l.body.now)) + 2

abbrev pub decreases-form::mark_repeat : goal.decreases-form::mark_repeat
decreases-form::mark_repeat l = 3 * (max (ds.size-Stmts l.body.now) (de.size-Expr l.test.now)) + 2

abbrev pub decreases-form::mark_for : goal.decreases-form::mark_for
decreases-form::mark_for l = 3 * (max (max (de.size-Expr l.from.now) (de.size-Expr l.to.now))
    (max (shapes.weighed-Stmt-For-4.weight _ de.size-Expr l.by.now) (ds.size-Stmts l.body.now))) + 2

abbrev pub decreases-form::mark_by : goal.decreases-form::mark_by
decreases-form::mark_by l = 3 * goal.size-form::mark_by l + 1

abbrev pub decreases-form::mark_some : goal.decreases-form::mark_some
decreases-form::mark_some l = 3 * (max (max (de.size-Expr l.from.now) (de.size-Expr l.to.now)) (ds.size-Stmts l.body.now)) + 2

abbrev pub decreases-form::mark_case : goal.decreases-form::mark_case
decreases-form::mark_case l = 3 * (max (max (de.size-Expr l.value.now) (da.size-Arm l.first.now))
    (max (most da.size-Arm l.more.now) (shapes.weighed-Stmt-If-4.weight _ ds.size-Stmts l.otherwise.now))) + 2

abbrev pub decreases-form::mark_arms : goal.decreases-form::mark_arms
decreases-form::mark_arms l = 3 * goal.size-form::mark_arms l + 1

abbrev pub decreases-form::mark_arm : goal.decreases-form::mark_arm
decreases-form::mark_arm l = 3 * goal.size-form::mark_arm l

abbrev pub decreases-form::mark_labelled : goal.decreases-form::mark_labelled
decreases-form::mark_labelled l = 3 * (max (max (dl.size-Label l.first.now) (most dl.size-Label l.more.now)) (ds.size-Stmts l.body.now)) + 2

abbrev pub decreases-form::mark_labels : goal.decreases-form::mark_labels
decreases-form::mark_labels l = 3 * goal.size-form::mark_labels l + 1

abbrev pub decreases-form::mark_label : goal.decreases-form::mark_label
decreases-form::mark_label l = 3 * goal.size-form::mark_label l

abbrev pub decreases-form::mark_high : goal.decreases-form::mark_high
decreases-form::mark_high l = 3 * goal.size-form::mark_high l + 1

abbrev pub decreases-form::mark_either : goal.decreases-form::mark_either
decreases-form::mark_either l = 3 * (max (ds.size-Stmts l.first.now) (most ds.size-Stmts l.more.now)) + 2

abbrev pub decreases-form::mark_orelses : goal.decreases-form::mark_orelses
decreases-form::mark_orelses l = 3 * goal.size-form::mark_orelses l + 1

abbrev pub decreases-form::mark_forall : goal.decreases-form::mark_forall
decreases-form::mark_forall l = 3 * (max (ds.size-Stmts l.choice.now) (ds.size-Stmts l.body.now)) + 2

abbrev pub decreases-form::mark_commit : goal.decreases-form::mark_commit
decreases-form::mark_commit l = 3 * goal.size-form::mark_commit l + 2

abbrev pub invariant-expression::mark_terms-loop-link : goal.invariant-expression::mark_terms-loop-link
invariant-expression::mark_terms-loop-link l =
    Rests (marks_of l.fn.marks) (marks_of l.marks) (places.mark_terms (view.terms_of l.more))
    (places.mark_terms (view.terms_of (drop l.link-index l.more)))

abbrev pub invariant-expression::mark_factors-loop-link : goal.invariant-expression::mark_factors-loop-link
invariant-expression::mark_factors-loop-link l =
    Rests (marks_of l.fn.marks) (marks_of l.marks) (places.mark_factors (view.factors_of l.more))
    (places.mark_factors (view.factors_of (drop l.link-index l.more)))

abbrev pub invariant-expression::mark_expr_tail-loop-expr : goal.invariant-expression::mark_expr_tail-loop-expr
invariant-expression::mark_expr_tail-loop-expr l =
    Rests (marks_of l.fn.marks) (marks_of l.marks) (places.mark_expr_tail (view.exprs_of l.more))
    (places.mark_expr_tail (view.exprs_of (drop l.expr-index l.more)))

abbrev pub invariant-expression::mark_selectors-loop-selector : goal.invariant-expression::mark_selectors-loop-selector
invariant-expression::mark_selectors-loop-selector l =
    Rests (marks_of l.fn.marks) (marks_of l.marks) (places.mark_selectors (view.selectors_of l.more))
    (places.mark_selectors (view.selectors_of (drop l.selector-index l.more)))

abbrev pub invariant-statement::mark_stmt_tail-loop-stmt : goal.invariant-statement::mark_stmt_tail-loop-stmt
invariant-statement::mark_stmt_tail-loop-stmt l =
    Rests (marks_of l.fn.marks) (marks_of l.marks) (places.mark_stmt_tail (view.stmts_of l.more))
    (places.mark_stmt_tail (view.stmts_of (drop l.stmt-index l.more)))

abbrev pub invariant-statement::mark_desigs-loop-desig : goal.invariant-statement::mark_desigs-loop-desig
invariant-statement::mark_desigs-loop-desig l =
    Rests (marks_of l.fn.marks) (marks_of l.marks) (places.mark_desigs l.at (view.desigs_of l.more))
    (places.mark_desigs l.at (view.desigs_of (drop l.desig-index l.more)))

abbrev pub invariant-statement::mark_item_tail-loop-item : goal.invariant-statement::mark_item_tail-loop-item
invariant-statement::mark_item_tail-loop-item l =
    Rests (marks_of l.fn.marks) (marks_of l.marks) (places.mark_item_tail l.at (view.exprs_of l.more))
    (places.mark_item_tail l.at (view.exprs_of (drop l.item-index l.more)))

abbrev pub invariant-form::mark_elsifs-loop-elsif : goal.invariant-form::mark_elsifs-loop-elsif
invariant-form::mark_elsifs-loop-elsif l =
    Rests (marks_of l.fn.marks) (marks_of l.marks) (places.mark_elsifs (view.elsifs_of l.elsifs))
    (places.mark_elsifs (view.elsifs_of (drop l.elsif-index l.elsifs)))

abbrev pub invariant-form::mark_arms-loop-arm : goal.invariant-form::mark_arms-loop-arm
invariant-form::mark_arms-loop-arm l =
    Rests (marks_of l.fn.marks) (marks_of l.marks) (places.mark_arms (view.arms_of l.more))
    (places.mark_arms (view.arms_of (drop l.arm-index l.more)))

abbrev pub invariant-form::mark_labels-loop-label : goal.invariant-form::mark_labels-loop-label
invariant-form::mark_labels-loop-label l =
    Rests (marks_of l.fn.marks) (marks_of l.marks) (places.mark_labels (view.labels_of l.more))
    (places.mark_labels (view.labels_of (drop l.label-index l.more)))

abbrev pub invariant-form::mark_orelses-loop-body : goal.invariant-form::mark_orelses-loop-body
invariant-form::mark_orelses-loop-body l =
    Rests (marks_of l.fn.marks) (marks_of l.marks) (places.mark_orelses (view.orelses_of l.more))
    (places.mark_orelses (view.orelses_of (drop l.body-index l.more)))
