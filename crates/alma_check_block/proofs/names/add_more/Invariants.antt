use Rattle.std.proofs.Common.{◌≡◌, drop}
use Rattle.alma_rules.specs.View as view
use Rattle.alma_rules.specs.Decls as rules
use Rattle.alma_check_rules.specs.Views.{declares_view}
use Rattle.alma_check_block.proofs.names.add_more.Given as goal

abbrev pub invariant-loop-name : goal.invariant-loop-name
invariant-loop-name l =
    rules.texts_behind l.reader (declares_view l.names) (view.names_of (drop l.name-index l.more)) ≡ rules.texts_behind l.reader
    (declares_view l.fn.names) (view.names_of l.more)
