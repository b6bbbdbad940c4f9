-- What the functions that append a spelling do.
use Rattle.std.specs.Prelude.{◌≡◌, List, ◌++◌, false}
use Rattle.alma_tree.specs.declared.kind.Kind.{Kind}
use Rattle.alma_spell.specs.declared.word.Spelled.{Spelled}

-- the new list is the old one and then what is spelled, before any further kinds
abbrev pub Pushes : (old new : List Kind) → (spelled : List Kind → List Kind) → Type 0
Pushes old new spelled = (rest : List Kind) → new ++ rest ≡ old ++ spelled rest

-- where memory is left behind it, there was some before, and what is spelled is put behind the kinds before
pub record Puts (old new : Spelled) (spelled : List Kind → List Kind) : Type 0 where
  pub room : new.full ≡ false → old.full ≡ false
  pub pushed : new.full ≡ false → Pushes old.kinds.items new.kinds.items spelled
