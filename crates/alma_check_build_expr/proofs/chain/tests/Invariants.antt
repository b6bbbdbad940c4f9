use Rattle.std.proofs.Common.{◌≡◌}
use Rattle.alma_ir.specs.Tree as ir
use Rattle.alma_ir.specs.View.{tests_list}
use Rattle.alma_rules.specs.Parts as parts
use Rattle.alma_check_rules.specs.Views.{operands_view, meaning_view}
use Rattle.alma_check_build_expr.proofs.chain.tests.Given as goal

abbrev pub invariant-loop-behind : goal.invariant-loop-behind
invariant-loop-behind l = tests_list l.tests.items ≡ ir.more_tests (parts.test_of (meaning_view l.fn.first))
    (parts.tests_of (operands_view l.yielded))
