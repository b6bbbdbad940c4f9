use Rattle.std.proofs.Common.{◌≡◌, drop, map}
use Rattle.alma_rules.specs.Decls as rules
use Rattle.alma_check_rules.specs.Views.{formal_view}
use Rattle.alma_check_block.specs.Shown.{formals_view}
use Rattle.alma_check_block.proofs.Headings.{behind}
use Rattle.alma_check_block.proofs.heading.all_formals.Given as goal

abbrev pub invariant-loop-formal : goal.invariant-loop-formal
invariant-loop-formal l =
    rules.all_formals (formals_view l.formals) ≡ behind (map formal_view l.all.items)
    (rules.all_formals (formals_view (drop l.formal-index l.formals)))
