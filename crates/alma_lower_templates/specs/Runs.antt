-- The runs in which a code names the kinds of the slots of a routine.
use Rattle.std.specs.Prelude.{◌≡◌, List, [], ◌∷◌, length}
use Rattle.alma_code.specs.declared.cell.SlotKind.{SlotKind}
use Rattle.alma_code.specs.declared.head.Run.{Run}
use Rattle.alma_code.specs.Layout.{RunsRise, kinds_of}

-- two runs that follow each other are of different kinds
abbrev pub RunsDiffer : List Run → Type 0
RunsDiffer [] = Unit {0}
RunsDiffer (a ∷ []) = Unit {0}
RunsDiffer (a ∷ b ∷ rest) = (a.kind ≡ b.kind → ⊥) × RunsDiffer (b ∷ rest)

-- the runs name these kinds, each run as long as it can be
pub record NamesKinds (runs : List Run) (kinds : List SlotKind) : Type 0 where
  pub ends : RunsRise 0 runs (length kinds)
  pub names : kinds_of 0 runs ≡ kinds
  pub longest : RunsDiffer runs
