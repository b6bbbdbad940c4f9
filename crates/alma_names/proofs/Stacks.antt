-- Stacks of blocks.
use Rattle.std.proofs.Common.{◌≡◌, ◌+◌, List, [], ◌∷◌, ◌++◌, length, arith}
use Rattle.alma_names.specs.Blocks.{DeclaredName}
use Rattle.alma_names.specs.Scopes.{entries_of}

-- the entries of one more block
pub entries_push : (bs : List (List DeclaredName)) (b : List DeclaredName) → entries_of (bs ++ b ∷ []) ≡ entries_of bs + length b
entries_push [] b = omega arith
entries_push (x ∷ bs) b = omega (arith, entries_push bs b)
