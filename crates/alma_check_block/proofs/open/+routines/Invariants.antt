use Rattle.std.proofs.Common.{◌≡◌, ◌+◌, drop}
use Rattle.alma_rules.specs.View as view
use Rattle.alma_rules.specs.Decls as rules
use Rattle.alma_check_block.proofs.open.+routines.Given as goal

abbrev pub invariant-count_routines-loop-decl : goal.invariant-count_routines-loop-decl
invariant-count_routines-loop-decl l =
    l.count + rules.decls_routines (view.decls_of (drop l.decl-index l.block.decls.items)) ≡ rules.decls_routines
    (view.decls_of l.block.decls.items)
