-- The loops of the walk: no RETURN was found in front, so what is left decides.
use Rattle.std.proofs.Common.{◌≡◌, drop}
use Rattle.alma_ir.specs.View.{stmts_list, arms_list, cases_list, branches_list}
use Rattle.alma_listing.specs.Inner.{stmts_return, arms_return, cases_return, branches_return}
use Rattle.alma_listing.proofs.returns.+returns.Given as goal

abbrev pub invariant-has_return-loop-stmt : goal.invariant-has_return-loop-stmt
invariant-has_return-loop-stmt l = stmts_return (stmts_list l.body) ≡ stmts_return (stmts_list (drop l.stmt-index l.body))

abbrev pub invariant-arms_return-loop-arm : goal.invariant-arms_return-loop-arm
invariant-arms_return-loop-arm l = arms_return (arms_list l.arms) ≡ arms_return (arms_list (drop l.arm-index l.arms))

abbrev pub invariant-cases_return-loop-arm : goal.invariant-cases_return-loop-arm
invariant-cases_return-loop-arm l = cases_return (cases_list l.arms) ≡ cases_return (cases_list (drop l.arm-index l.arms))

abbrev pub invariant-branches_return-loop-branch : goal.invariant-branches_return-loop-branch
invariant-branches_return-loop-branch l =
    branches_return (branches_list l.branches) ≡ branches_return (branches_list (drop l.branch-index l.branches))
