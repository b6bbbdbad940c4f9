-- The names of the resolved program of a source's tree.
use Rattle.std.proofs.Common.{◌≡◌, ℕ, List, length, Some}
use Rattle.alma_tree.specs.declared.module.Module.{Module}
use Rattle.alma_scan.specs.Tokens.{Lexeme}
use Rattle.alma_ir.specs.Tree.{Program}
use Rattle.alma_ir.specs.Checked.{NamesSpelled}
use Rattle.alma_rules.specs.View as numbered
use Rattle.alma_rules.specs.Modules.{resolution}
use Rattle.alma_resolved.specs.Whole.{kinds_in, IsTreeOf}
use Rattle.alma_resolved.proofs.Naming.{numbered_names}
use Rattle.alma_resolved.proofs.Named.{program_named}

pub tree_named : (source : List ℕ) (tokens : List Lexeme) (m : Module) (p : Program) → IsTreeOf source tokens m
    → resolution source tokens (numbered.view_module m) ≡ Some p → NamesSpelled p
tree_named source tokens m p t e = program_named source tokens (numbered.view_module m) p t.scanned
    (numbered_names m (length tokens) (kinds_in tokens) t.numbered t.spelled) e
