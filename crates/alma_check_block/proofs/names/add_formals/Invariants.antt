use Rattle.std.proofs.Common.{◌≡◌, drop}
use Rattle.alma_rules.specs.View as view
use Rattle.alma_rules.specs.Decls as rules
use Rattle.alma_check_rules.specs.Views.{declares_view}
use Rattle.alma_check_block.proofs.names.add_formals.Given as goal

abbrev pub invariant-loop-formal : goal.invariant-loop-formal
invariant-loop-formal l =
    rules.texts_behind l.reader (declares_view l.names)
    (rules.formal_names (view.more_formals_of (drop l.formal-index l.more))) ≡ rules.texts_behind l.reader (declares_view l.fn.names)
    (rules.formal_names (view.more_formals_of l.more))
