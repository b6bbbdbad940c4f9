use Rattle.std.proofs.Common.{◌≡◌, drop}
use Rattle.alma_rules.specs.View as view
use Rattle.alma_rules.specs.Decls as rules
use Rattle.alma_check_rules.specs.Views.{declares_view}
use Rattle.alma_check_block.proofs.names.add_consts.Given as goal

abbrev pub invariant-loop-entry : goal.invariant-loop-entry
invariant-loop-entry l =
    rules.texts_behind l.reader (declares_view l.names)
    (rules.const_names (view.consts_of (drop l.entry-index l.entries))) ≡ rules.texts_behind l.reader (declares_view l.fn.names)
    (rules.const_names (view.consts_of l.entries))
