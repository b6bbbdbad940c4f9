use Rattle.std.proofs.Common.{◌≡◌, drop}
use Rattle.alma_rules.specs.View as view
use Rattle.alma_rules.specs.Decls as rules
use Rattle.alma_check_rules.specs.Views.{declares_view}
use Rattle.alma_check_block.proofs.names.add_decls.Given as goal

abbrev pub invariant-loop-decl : goal.invariant-loop-decl
invariant-loop-decl l =
    rules.texts_behind l.reader (declares_view l.names) (rules.decls_names (view.decls_of (drop l.decl-index l.decls))) ≡ rules.texts_behind
    l.reader (declares_view l.fn.names) (rules.decls_names (view.decls_of l.decls))
