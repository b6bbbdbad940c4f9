-- The loops of the sum: what was added is the sum over the front of the list.
use Rattle.std.proofs.Common.{◌≡◌, take}
use Rattle.std.specs.Prelude.{sum_by}
use Rattle.alma_ir.specs.Count.{saturate}
use Rattle.alma_ir.proofs.Counted.{of_stmt, of_test, of_arg, of_sel, of_link, of_arm, of_case, of_branch}
use Rattle.alma_ir.proofs.inside.+sum.Given as goal

abbrev pub invariant-sum_args-loop-arg : goal.invariant-sum_args-loop-arg
invariant-sum_args-loop-arg l = l.total ≡ saturate (sum_by (of_arg l.measure) (take l.arg-index l.args))

abbrev pub invariant-sum_desig-loop-sel : goal.invariant-sum_desig-loop-sel
invariant-sum_desig-loop-sel l = l.total ≡ saturate (sum_by (of_sel l.measure) (take l.sel-index l.sel-items))

abbrev pub invariant-sum_links-loop-link : goal.invariant-sum_links-loop-link
invariant-sum_links-loop-link l = l.total ≡ saturate (sum_by (of_link l.measure) (take l.link-index l.links))

abbrev pub invariant-sum_arms-loop-arm : goal.invariant-sum_arms-loop-arm
invariant-sum_arms-loop-arm l = l.total ≡ saturate (sum_by (of_arm l.measure) (take l.arm-index l.arms))

abbrev pub invariant-sum_cases-loop-arm : goal.invariant-sum_cases-loop-arm
invariant-sum_cases-loop-arm l = l.total ≡ saturate (sum_by (of_case l.measure) (take l.arm-index l.arms))

abbrev pub invariant-sum_branches-loop-branch : goal.invariant-sum_branches-loop-branch
invariant-sum_branches-loop-branch l = l.total ≡ saturate (sum_by (of_branch l.measure) (take l.branch-index l.branches))

abbrev pub invariant-sum_stmts-loop-stmt : goal.invariant-sum_stmts-loop-stmt
invariant-sum_stmts-loop-stmt l = l.total ≡ saturate (sum_by (of_stmt l.measure) (take l.stmt-index l.body))

abbrev pub invariant-sum_tests-loop-test : goal.invariant-sum_tests-loop-test
invariant-sum_tests-loop-test l = l.total ≡ saturate (sum_by (of_test l.measure) (take l.test-index l.tests))
