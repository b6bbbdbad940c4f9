-- The loops of the copy: what was copied is the copy of the front of the list.
use Rattle.std.proofs.Common.{◌≡◌, take, map}
use Rattle.alma_copy.specs.Numbers.{moves_of}
use Rattle.alma_copy.proofs.Copies.{of_stmt, of_test, of_arg, of_sel, of_link, of_arm, of_case, of_branch, stmt_copy, test_copy, arg_copy}
use Rattle.alma_copy.proofs.Copies.{sel_copy, link_copy, arm_copy, case_copy, branch_copy}
use Rattle.alma_copy.proofs.copy.+copy.Given as goal

abbrev pub invariant-copy_stmts-loop-stmt : goal.invariant-copy_stmts-loop-stmt
invariant-copy_stmts-loop-stmt l = map of_stmt l.copy.items ≡ map (stmt_copy (moves_of l.moves)) (take l.stmt-index l.body)

abbrev pub invariant-copy_tests-loop-test : goal.invariant-copy_tests-loop-test
invariant-copy_tests-loop-test l = map of_test l.copy.items ≡ map (test_copy (moves_of l.moves)) (take l.test-index l.tests)

abbrev pub invariant-copy_args-loop-arg : goal.invariant-copy_args-loop-arg
invariant-copy_args-loop-arg l = map of_arg l.copy.items ≡ map (arg_copy (moves_of l.moves)) (take l.arg-index l.args)

abbrev pub invariant-copy_desig-loop-sel : goal.invariant-copy_desig-loop-sel
invariant-copy_desig-loop-sel l = map of_sel l.sels.items ≡ map (sel_copy (moves_of l.moves)) (take l.sel-index l.sel-items)

abbrev pub invariant-copy_links-loop-link : goal.invariant-copy_links-loop-link
invariant-copy_links-loop-link l = map of_link l.copy.items ≡ map (link_copy (moves_of l.moves)) (take l.link-index l.links)

abbrev pub invariant-copy_arms-loop-arm : goal.invariant-copy_arms-loop-arm
invariant-copy_arms-loop-arm l = map of_arm l.copy.items ≡ map (arm_copy (moves_of l.moves)) (take l.arm-index l.arms)

abbrev pub invariant-copy_cases-loop-arm : goal.invariant-copy_cases-loop-arm
invariant-copy_cases-loop-arm l = map of_case l.copy.items ≡ map (case_copy (moves_of l.moves)) (take l.arm-index l.arms)

abbrev pub invariant-copy_branches-loop-branch : goal.invariant-copy_branches-loop-branch
invariant-copy_branches-loop-branch l = map of_branch l.copy.items ≡ map (branch_copy (moves_of l.moves)) (take l.branch-index l.branches)
