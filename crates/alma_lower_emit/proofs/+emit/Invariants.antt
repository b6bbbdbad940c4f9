-- The measures: 16 for each node that is left, and the place of the function among those that may be called at the same nodes.
use Rattle.std.proofs.Common.{◌≡◌, ◌+◌, ◌*◌, drop}
use Rattle.alma_ir.specs.View.{tests_list, test_of, expr_of, links_list, args_list, arg_of, desig_of, sels_list, sel_of}
use Rattle.alma_ir.specs.Count.{tests_nodes, test_nodes, expr_nodes, links_nodes, args_nodes, arg_nodes, desig_nodes, sels_nodes, sel_nodes}
use Rattle.alma_lower_work.specs.Front.{Front, around, front}
use Rattle.alma_lower_work.specs.Puts.{PutsArgs, PutsSels, PutsLinks, PutsAnd, PutsOperands}
use Rattle.alma_lower_templates.specs.Templates.{part_at}
use Rattle.alma_ir.specs.Lines.{sels_with}
use Rattle.alma_lower_emit.proofs.+emit.Given as goal

abbrev pub decreases-call::emit_call : goal.decreases-call::emit_call
decreases-call::emit_call g l = 16 * (args_nodes (args_list l.args.now)) + 3

abbrev pub decreases-call::emit_args : goal.decreases-call::emit_args
decreases-call::emit_args g l = 16 * (args_nodes (args_list l.args.now)) + 2

abbrev pub decreases-call::emit_arg : goal.decreases-call::emit_arg
decreases-call::emit_arg g l = 16 * (arg_nodes (arg_of l.arg.now)) + 0

abbrev pub decreases-call::emit_call_value : goal.decreases-call::emit_call_value
decreases-call::emit_call_value g l = 16 * (args_nodes (args_list l.call.now.args.items)) + 4

abbrev pub decreases-condition::emit_guard : goal.decreases-condition::emit_guard
decreases-condition::emit_guard g l = 16 * (test_nodes (test_of l.test.now)) + 2

abbrev pub decreases-condition::emit_barrier : goal.decreases-condition::emit_barrier
decreases-condition::emit_barrier g l = 16 * (test_nodes (test_of l.test.now)) + 1

abbrev pub decreases-designator::emit_desig : goal.decreases-designator::emit_desig
decreases-designator::emit_desig g l = 16 * (desig_nodes (desig_of l.desig.now)) + 0

abbrev pub decreases-designator::emit_held : goal.decreases-designator::emit_held
decreases-designator::emit_held g l = 16 * (desig_nodes (desig_of l.desig.now)) + 1

abbrev pub decreases-designator::emit_place : goal.decreases-designator::emit_place
decreases-designator::emit_place g l = 16 * (desig_nodes (desig_of l.desig.now)) + 1

abbrev pub decreases-designator::emit_sels : goal.decreases-designator::emit_sels
decreases-designator::emit_sels g l = 16 * (sels_nodes (sels_list l.sels.now)) + 1

abbrev pub decreases-designator::emit_sel : goal.decreases-designator::emit_sel
decreases-designator::emit_sel g l = 16 * (sel_nodes (sel_of l.sel.now)) + 0

abbrev pub decreases-expression::emit_expr : goal.decreases-expression::emit_expr
decreases-expression::emit_expr g l = 16 * (expr_nodes (expr_of l.expr.now)) + 0

abbrev pub decreases-expression::emit_load : goal.decreases-expression::emit_load
decreases-expression::emit_load g l = 16 * (desig_nodes (desig_of l.desig.now)) + 2

abbrev pub decreases-expression::emit_chain : goal.decreases-expression::emit_chain
decreases-expression::emit_chain g l = 16 * (expr_nodes (expr_of l.first.now) + links_nodes (links_list l.links.now)) + 3

abbrev pub decreases-expression::emit_first : goal.decreases-expression::emit_first
decreases-expression::emit_first g l = 16 * (expr_nodes (expr_of l.expr.now)) + 1

abbrev pub decreases-expression::emit_links : goal.decreases-expression::emit_links
decreases-expression::emit_links g l = 16 * (links_nodes (links_list l.links.now)) + 2

abbrev pub decreases-expression::emit_compare : goal.decreases-expression::emit_compare
decreases-expression::emit_compare g l = 16 * (expr_nodes (expr_of l.left.now) + expr_nodes (expr_of l.right.now)) + 2

abbrev pub decreases-expression::emit_truth : goal.decreases-expression::emit_truth
decreases-expression::emit_truth g l = 16 * (test_nodes (test_of l.test.now)) + 3

abbrev pub decreases-expression::emit_known : goal.decreases-expression::emit_known
decreases-expression::emit_known g l = 16 * (desig_nodes (desig_of l.desig.now)) + 2

abbrev pub decreases-expression::emit_value : goal.decreases-expression::emit_value
decreases-expression::emit_value g l = 16 * (expr_nodes (expr_of l.expr.now)) + 1

abbrev pub decreases-test::emit_test : goal.decreases-test::emit_test
decreases-test::emit_test g l = 16 * (test_nodes (test_of l.test.now)) + 0

abbrev pub decreases-test::emit_checked : goal.decreases-test::emit_checked
decreases-test::emit_checked g l = 16 * (expr_nodes (expr_of l.value.now)) + 2

abbrev pub decreases-test::emit_bind : goal.decreases-test::emit_bind
decreases-test::emit_bind g l = 16 * (desig_nodes (desig_of l.desig.now) + expr_nodes (expr_of l.value.now)) + 3

abbrev pub decreases-test::emit_bind_left : goal.decreases-test::emit_bind_left
decreases-test::emit_bind_left g l = 16 * (desig_nodes (desig_of l.desig.now) + expr_nodes (expr_of l.value.now)) + 2

abbrev pub decreases-test::emit_bind_right : goal.decreases-test::emit_bind_right
decreases-test::emit_bind_right g l = 16 * (desig_nodes (desig_of l.desig.now) + expr_nodes (expr_of l.value.now)) + 2

abbrev pub decreases-test::emit_unify : goal.decreases-test::emit_unify
decreases-test::emit_unify g l = 16 * (desig_nodes (desig_of l.left.now) + desig_nodes (desig_of l.right.now)) + 1

abbrev pub decreases-test::emit_same_cells : goal.decreases-test::emit_same_cells
decreases-test::emit_same_cells g l = 16 * (desig_nodes (desig_of l.left.now) + desig_nodes (desig_of l.right.now)) + 1

abbrev pub decreases-test::emit_and : goal.decreases-test::emit_and
decreases-test::emit_and g l = 16 * (tests_nodes (tests_list l.tests.now)) + 1

abbrev pub decreases-test::emit_or : goal.decreases-test::emit_or
decreases-test::emit_or g l = 16 * (tests_nodes (tests_list l.tests.now)) + 4

abbrev pub decreases-test::emit_operands : goal.decreases-test::emit_operands
decreases-test::emit_operands g l = 16 * (tests_nodes (tests_list l.tests.now)) + 3

abbrev pub decreases-test::emit_operand : goal.decreases-test::emit_operand
decreases-test::emit_operand g l = 16 * (test_nodes (test_of l.test.now)) + 1

abbrev pub decreases-test::emit_not : goal.decreases-test::emit_not
decreases-test::emit_not g l = 16 * (test_nodes (test_of l.test.now)) + 1

-- ---- loops: what is left completes what was put

abbrev pub invariant-call::emit_args-loop-arg : goal.invariant-call::emit_args-loop-arg
invariant-call::emit_args-loop-arg g l =
    (c : Front) → PutsArgs (around l.scene) l.line l.slot (front l.work) c (args_list (drop l.arg-index l.args))
    → PutsArgs (around l.scene) l.line l.to (front l.fn.work) c (args_list l.args)

abbrev pub invariant-designator::emit_sels-loop-sel : goal.invariant-designator::emit_sels-loop-sel
invariant-designator::emit_sels-loop-sel g l = record {
  part : part_at (around l.scene).program (around l.scene).tables (around l.scene).routine l.from (front l.fn.work).next
      (sels_with (sels_list l.sels) (front l.fn.work).lines)
      ≡ part_at (around l.scene).program (around l.scene).tables (around l.scene).routine l.place (front l.work).next
      (sels_with (sels_list (drop l.sel-index l.sels)) (front l.work).lines);
  completes : (c : Front) → PutsSels (around l.scene) l.line l.place (front l.work) c (sels_list (drop l.sel-index l.sels))
      → PutsSels (around l.scene) l.line l.from (front l.fn.work) c (sels_list l.sels);
}

abbrev pub invariant-expression::emit_links-loop-link : goal.invariant-expression::emit_links-loop-link
invariant-expression::emit_links-loop-link g l =
    (c : Front) → PutsLinks (around l.scene) l.line l.left l.first.to (front l.work) c (links_list (drop l.link-index l.links))
    → PutsLinks (around l.scene) l.line l.first.from l.first.to (front l.fn.work) c (links_list l.links)

abbrev pub invariant-test::emit_and-loop-test : goal.invariant-test::emit_and-loop-test
invariant-test::emit_and-loop-test g l =
    (c : Front) → PutsAnd (around l.scene) l.line (front l.work) c (tests_list (drop l.test-index l.tests))
    → PutsAnd (around l.scene) l.line (front l.fn.work) c (tests_list l.tests)

abbrev pub invariant-test::emit_operands-loop-i : goal.invariant-test::emit_operands-loop-i
invariant-test::emit_operands-loop-i g l =
    (c : Front) → PutsOperands (around l.scene) l.line l.exit (front l.work) c (tests_list (drop l.i l.tests))
    → PutsOperands (around l.scene) l.line l.exit (front l.fn.work) c (tests_list (drop 1 l.tests))
