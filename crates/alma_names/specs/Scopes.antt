-- Scopes as a stack of blocks, whose entries are numbered through from the lowest block up, and what a look-up finds in it.
use Rattle.std.specs.Prelude.{◌≡◌, ℕ, ◌+◌, ◌-◌, List, [], ◌∷◌, ◌++◌, Option, None, Some, Result, Ok, Err, if◌then◌else◌, nat_lt, length}
use Rattle.std.specs.Prelude.{slice_get, take, get_or, option_map}
use Rattle.alma_names.specs.declared.block.Entry.{Entry}
use Rattle.alma_names.specs.declared.block.Entry.TheVariants.{Bad}
use Rattle.alma_names.specs.declared.scopes.Id.{Id}
use Rattle.alma_names.specs.declared.scopes.DeclareError.{DeclareError}
use Rattle.alma_names.specs.declared.scopes.DeclareError.TheVariants.{Twice, Memory}
use Rattle.alma_names.specs.Blocks.{DeclaredName, predeclared, place, seen, entry_in}

-- the top block, and the blocks below it, the lowest first
pub record Blocks : Type 0 where
  pub below : List (List DeclaredName)
  pub top : List DeclaredName

-- the scopes before a module: the block of the predeclared names alone
abbrev pub first_blocks : Blocks
first_blocks = record { below = []; top = predeclared }

-- how many names are declared in some blocks
abbrev pub entries_of : List (List DeclaredName) → ℕ
entries_of [] = 0
entries_of (b ∷ bs) = length b + entries_of bs

-- how many names are declared in all blocks, and so the number of the next entry
abbrev pub entry_count : Blocks → ℕ
entry_count s = entries_of s.below + length s.top

-- the scopes in which a block was opened: an empty one on top, over all others
abbrev pub with_new_block : Blocks → Blocks
with_new_block s = record { below = s.below ++ s.top ∷ []; top = [] }

-- the scopes whose top block was closed: the highest block below is the top one again
abbrev pub without_top_block : Blocks → Blocks
without_top_block s = record { below = take (length s.below - 1) s.below; top = get_or s.below (length s.below - 1) [] }

-- the scopes in which one more name was declared, in the top block
abbrev pub with_declared : Blocks → DeclaredName → Blocks
with_declared s d = record { below = s.below; top = s.top ++ d ∷ [] }

-- the first number where there is one, else the second
abbrev pub or_else : Option ℕ → Option ℕ → Option ℕ
or_else (Some x) other = Some x
or_else None other = other

-- as `visible`, over blocks of which the lowest has the entries from number n on, and no top block
abbrev pub visible_from : List ℕ → ℕ → ℕ → List (List DeclaredName) → Option ℕ
visible_from name at n [] = None
visible_from name at n (b ∷ bs) = or_else (visible_from name at (n + length b) bs) (option_map (λ i. n + i) (seen name at b))

-- the entry that a name means at a token: that of the highest block in which it is visible there
abbrev pub visible : List ℕ → ℕ → Blocks → Option ℕ
visible name at s = or_else (option_map (λ i. entries_of s.below + i) (seen name at s.top)) (visible_from name at 0 s.below)

-- what the entry of a number is, over blocks of which the lowest has the entries from 0 on
abbrev pub entry_below : ℕ → List (List DeclaredName) → Entry
entry_below id [] = Bad
entry_below id (b ∷ bs) = if nat_lt id (length b) then entry_in (slice_get b id) else entry_below (id - length b) bs

-- what the entry of a number is, over all blocks
abbrev pub entry_at : ℕ → Blocks → Entry
entry_at id s = if nat_lt id (entries_of s.below) then entry_below id s.below else entry_in (slice_get s.top (id - entries_of s.below))

-- as `level_of`, over blocks of which the lowest is block n and has the entries from 0 on
abbrev pub level_from : ℕ → ℕ → List (List DeclaredName) → ℕ
level_from id n [] = n
level_from id n (b ∷ bs) = if nat_lt id (length b) then n else level_from (id - length b) (n + 1) bs

-- the number of the block in which the entry of a number stands, 0 for the lowest
abbrev pub level_of : ℕ → Blocks → ℕ
level_of id s = level_from id 0 s.below

-- the entry that the top block has under a name already, visible or not
abbrev pub number_in_top_block : List ℕ → Blocks → Option ℕ
number_in_top_block name s = option_map (λ i. entries_of s.below + i) (place name s.top)

-- a name that the top block has is refused, with its entry, and only such a one
abbrev pub RefusesTwice : Option ℕ → Result Id DeclareError → Type 0
RefusesTwice found (Ok id) = found ≡ None
RefusesTwice found (Err (Twice id)) = found ≡ Some id.0
RefusesTwice found (Err Memory) = found ≡ None
