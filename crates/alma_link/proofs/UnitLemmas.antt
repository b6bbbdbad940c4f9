-- Modules that were read.
use Rattle.std.proofs.Common.{◌≡◌, ◌+◌, ◌∙◌, List, [], ◌∷◌, ◌++◌, length, map, ap, subst, sym}
use Rattle.std.proofs.lemmas.List.{length-append, map-append}
use Rattle.std.specs.List.{AllByRecursion}
use Rattle.alma_ir.proofs.Each.{each_of_append}
use Rattle.alma_ir.specs.Checked.{IsChecked}
use Rattle.alma_ir.specs.View.{program_of}
use Rattle.alma_ir.specs.Tree as tree
use Rattle.alma_ir.specs.declared.program.Program.{Program}

-- one more behind others: all are checked, and there is one more
pub one_more : (units : List Program) (unit : Program) (all : List Program) → all ≡ units ++ unit ∷ []
    → AllByRecursion IsChecked (map program_of units)
    → IsChecked (program_of unit) → AllByRecursion IsChecked (map program_of all) × (length all ≡ length units + 1)
one_more units unit all e checked one = (
  subst (λ (ps : List tree.Program). AllByRecursion IsChecked ps) (sym (ap (map program_of) e ∙ map-append program_of units (unit ∷ [])))
      (each_of_append IsChecked (map program_of units) (program_of unit ∷ []) checked (one, tt)),
  ap (λ (ps : List Program). length ps) e ∙ length-append units (unit ∷ []),
)
