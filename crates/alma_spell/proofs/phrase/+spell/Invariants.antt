use Rattle.std.proofs.Common.{◌+◌, ◌*◌, max, drop}
use denote.Param.Weighed.{most}
use Rattle.alma_tree.specs.declared.phrase.Stmts as ds
use Rattle.alma_tree.specs.declared.phrase.Elsif as df
use Rattle.alma_tree.specs.declared.phrase.Arm as da
use Rattle.alma_tree.specs.declared.phrase.Arm.TheShapes as shapes
use Rattle.alma_tree.specs.declared.phrase.Expr as de
use Rattle.alma_tree.specs.declared.phrase.Desig as dd
use Rattle.alma_tree.specs.Spelling as spells
use Rattle.alma_tree.specs.View as view
use Rattle.alma_spell.proofs.Steps.{Rests}
use Rattle.alma_spell.proofs.phrase.+spell.Given as goal

-- ---- measures: three times the depth, and two more for a form of statement whose parts are passed one by one, one more for what is passed
-- a slice or an option

abbrev pub decreases-put_stmts : goal.decreases-put_stmts
decreases-put_stmts l = 3 * goal.size-put_stmts l

abbrev pub decreases-put_stmt_tail : goal.decreases-put_stmt_tail
decreases-put_stmt_tail l = 3 * goal.size-put_stmt_tail l + 1

abbrev pub decreases-put_stmt : goal.decreases-put_stmt
decreases-put_stmt l = 3 * goal.size-put_stmt l

abbrev pub decreases-put_assign : goal.decreases-put_assign
decreases-put_assign l =
    3 * (max (dd.size-Desig l.target.now) (de.size-Expr l.value.now)) + 2

abbrev pub decreases-put_if : goal.decreases-put_if
decreases-put_if l =
    3 * (max (max (de.size-Expr l.test.now) (ds.size-Stmts l.then.now)) (max (most df.size-Elsif l.elsifs.now)
    (shapes.weighed-Stmt-If-4.weight _ ds.size-Stmts l.otherwise.now))) + 2

abbrev pub decreases-put_while : goal.decreases-put_while
decreases-put_while l =
    3 * (max (de.size-Expr l.test.now) (ds.size-Stmts l.body.now)) + 2

abbrev pub decreases-put_repeat : goal.decreases-put_repeat
decreases-put_repeat l =
    3 * (max (ds.size-Stmts l.body.now) (de.size-Expr l.test.now)) + 2

abbrev pub decreases-put_for : goal.decreases-put_for
decreases-put_for l =
    3 * (max (max (de.size-Expr l.from.now) (de.size-Expr l.to.now)) (max (shapes.weighed-Stmt-For-4.weight _ de.size-Expr l.by.now)
    (ds.size-Stmts l.body.now))) + 2

abbrev pub decreases-put_some : goal.decreases-put_some
decreases-put_some l =
    3 * (max (max (de.size-Expr l.from.now) (de.size-Expr l.to.now)) (ds.size-Stmts l.body.now)) + 2

abbrev pub decreases-put_case : goal.decreases-put_case
decreases-put_case l =
    3 * (max (max (de.size-Expr l.value.now) (da.size-Arm l.first.now)) (max (most da.size-Arm l.more.now)
    (shapes.weighed-Stmt-If-4.weight _ ds.size-Stmts l.otherwise.now))) + 2

abbrev pub decreases-put_either : goal.decreases-put_either
decreases-put_either l =
    3 * (max (ds.size-Stmts l.first.now) (most ds.size-Stmts l.more.now)) + 2

abbrev pub decreases-put_forall : goal.decreases-put_forall
decreases-put_forall l =
    3 * (max (ds.size-Stmts l.choice.now) (ds.size-Stmts l.body.now)) + 2

abbrev pub decreases-put_commit : goal.decreases-put_commit
decreases-put_commit l = 3 * goal.size-put_commit l + 2

abbrev pub decreases-put_return : goal.decreases-put_return
decreases-put_return l = 3 * goal.size-put_return l + 2

abbrev pub decreases-put_read : goal.decreases-put_read
decreases-put_read l =
    3 * (max (dd.size-Desig l.first.now) (most dd.size-Desig l.more.now)) + 2

abbrev pub decreases-put_write : goal.decreases-put_write
decreases-put_write l = 3 * goal.size-put_write l + 2

abbrev pub decreases-put_writeln : goal.decreases-put_writeln
decreases-put_writeln l = 3 * goal.size-put_writeln l + 2

abbrev pub decreases-put_elsif_tail : goal.decreases-put_elsif_tail
decreases-put_elsif_tail l = 3 * goal.size-put_elsif_tail l + 1

abbrev pub decreases-put_else : goal.decreases-put_else
decreases-put_else l = 3 * goal.size-put_else l + 1

abbrev pub decreases-put_by : goal.decreases-put_by
decreases-put_by l = 3 * goal.size-put_by l + 1

abbrev pub decreases-put_orelse_tail : goal.decreases-put_orelse_tail
decreases-put_orelse_tail l = 3 * goal.size-put_orelse_tail l + 1

abbrev pub decreases-put_returned : goal.decreases-put_returned
decreases-put_returned l = 3 * goal.size-put_returned l + 1

abbrev pub decreases-put_desig_tail : goal.decreases-put_desig_tail
decreases-put_desig_tail l = 3 * goal.size-put_desig_tail l + 1

abbrev pub decreases-put_arm : goal.decreases-put_arm
decreases-put_arm l = 3 * goal.size-put_arm l

abbrev pub decreases-put_arm_tail : goal.decreases-put_arm_tail
decreases-put_arm_tail l = 3 * goal.size-put_arm_tail l + 1

abbrev pub decreases-put_label : goal.decreases-put_label
decreases-put_label l = 3 * goal.size-put_label l

abbrev pub decreases-put_high : goal.decreases-put_high
decreases-put_high l = 3 * goal.size-put_high l + 1

abbrev pub decreases-put_label_tail : goal.decreases-put_label_tail
decreases-put_label_tail l = 3 * goal.size-put_label_tail l + 1

abbrev pub decreases-put_expr : goal.decreases-put_expr
decreases-put_expr l = 3 * goal.size-put_expr l

abbrev pub decreases-put_compared : goal.decreases-put_compared
decreases-put_compared l = 3 * goal.size-put_compared l + 1

abbrev pub decreases-put_simple : goal.decreases-put_simple
decreases-put_simple l = 3 * goal.size-put_simple l

abbrev pub decreases-put_term_tail : goal.decreases-put_term_tail
decreases-put_term_tail l = 3 * goal.size-put_term_tail l + 1

abbrev pub decreases-put_term : goal.decreases-put_term
decreases-put_term l = 3 * goal.size-put_term l

abbrev pub decreases-put_factor_tail : goal.decreases-put_factor_tail
decreases-put_factor_tail l = 3 * goal.size-put_factor_tail l + 1

abbrev pub decreases-put_factor : goal.decreases-put_factor
decreases-put_factor l = 3 * goal.size-put_factor l

abbrev pub decreases-put_primary : goal.decreases-put_primary
decreases-put_primary l = 3 * goal.size-put_primary l

abbrev pub decreases-put_args : goal.decreases-put_args
decreases-put_args l = 3 * goal.size-put_args l + 1

abbrev pub decreases-put_exprs : goal.decreases-put_exprs
decreases-put_exprs l = 3 * goal.size-put_exprs l

abbrev pub decreases-put_expr_tail : goal.decreases-put_expr_tail
decreases-put_expr_tail l = 3 * goal.size-put_expr_tail l + 1

abbrev pub decreases-put_desig : goal.decreases-put_desig
decreases-put_desig l = 3 * goal.size-put_desig l

abbrev pub decreases-put_selector_tail : goal.decreases-put_selector_tail
decreases-put_selector_tail l = 3 * goal.size-put_selector_tail l + 1

abbrev pub decreases-put_selector : goal.decreases-put_selector
decreases-put_selector l = 3 * goal.size-put_selector l

-- ---- loops: what is pushed, with what is left to push, is the whole

abbrev pub invariant-put_stmt_tail-loop-tree : goal.invariant-put_stmt_tail-loop-tree
invariant-put_stmt_tail-loop-tree l =
    Rests l.fn.out l.out (spells.spell_stmt_tail (view.stmts_of l.trees))
    (spells.spell_stmt_tail (view.stmts_of (drop l.tree-index l.trees)))

abbrev pub invariant-put_elsif_tail-loop-tree : goal.invariant-put_elsif_tail-loop-tree
invariant-put_elsif_tail-loop-tree l =
    Rests l.fn.out l.out (spells.spell_elsif_tail (view.elsifs_of l.trees))
    (spells.spell_elsif_tail (view.elsifs_of (drop l.tree-index l.trees)))

abbrev pub invariant-put_orelse_tail-loop-tree : goal.invariant-put_orelse_tail-loop-tree
invariant-put_orelse_tail-loop-tree l =
    Rests l.fn.out l.out (spells.spell_orelse_tail (view.orelses_of l.trees))
    (spells.spell_orelse_tail (view.orelses_of (drop l.tree-index l.trees)))

abbrev pub invariant-put_desig_tail-loop-tree : goal.invariant-put_desig_tail-loop-tree
invariant-put_desig_tail-loop-tree l =
    Rests l.fn.out l.out (spells.spell_desig_tail (view.desigs_of l.trees))
    (spells.spell_desig_tail (view.desigs_of (drop l.tree-index l.trees)))

abbrev pub invariant-put_arm_tail-loop-tree : goal.invariant-put_arm_tail-loop-tree
invariant-put_arm_tail-loop-tree l =
    Rests l.fn.out l.out (spells.spell_arm_tail (view.arms_of l.trees)) (spells.spell_arm_tail (view.arms_of (drop l.tree-index l.trees)))

abbrev pub invariant-put_label_tail-loop-tree : goal.invariant-put_label_tail-loop-tree
invariant-put_label_tail-loop-tree l =
    Rests l.fn.out l.out (spells.spell_label_tail (view.labels_of l.trees))
    (spells.spell_label_tail (view.labels_of (drop l.tree-index l.trees)))

abbrev pub invariant-put_term_tail-loop-tree : goal.invariant-put_term_tail-loop-tree
invariant-put_term_tail-loop-tree l =
    Rests l.fn.out l.out (spells.spell_term_tail (view.terms_of l.trees))
    (spells.spell_term_tail (view.terms_of (drop l.tree-index l.trees)))

abbrev pub invariant-put_factor_tail-loop-tree : goal.invariant-put_factor_tail-loop-tree
invariant-put_factor_tail-loop-tree l =
    Rests l.fn.out l.out (spells.spell_factor_tail (view.factors_of l.trees))
    (spells.spell_factor_tail (view.factors_of (drop l.tree-index l.trees)))

abbrev pub invariant-put_expr_tail-loop-tree : goal.invariant-put_expr_tail-loop-tree
invariant-put_expr_tail-loop-tree l =
    Rests l.fn.out l.out (spells.spell_expr_tail (view.exprs_of l.trees))
    (spells.spell_expr_tail (view.exprs_of (drop l.tree-index l.trees)))

abbrev pub invariant-put_selector_tail-loop-tree : goal.invariant-put_selector_tail-loop-tree
invariant-put_selector_tail-loop-tree l =
    Rests l.fn.out l.out (spells.spell_selector_tail (view.selectors_of l.trees))
    (spells.spell_selector_tail (view.selectors_of (drop l.tree-index l.trees)))
