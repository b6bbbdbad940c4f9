use Rattle.std.proofs.Common.{◌≡◌, drop}
use Rattle.alma_rules.specs.View as view
use Rattle.alma_rules.specs.Decls as rules
use Rattle.alma_check_block.proofs.open.declare_routines.Given as goal

abbrev pub invariant-loop-decl : goal.invariant-loop-decl
invariant-loop-decl l = rules.with_routines l.fn.reader l.first (view.decls_of l.decls) ≡ rules.with_routines l.reader l.next
    (view.decls_of (drop l.decl-index l.decls))
