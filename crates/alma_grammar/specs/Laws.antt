-- What is proved of the grammar.
use Rattle.std.specs.Prelude.{◌≡◌, ◌≤◌, ◌<◌, true, false, List, [], ◌∷◌, ◌++◌, take}
use Rattle.alma_base.specs.Limits.{depth_limit}
use Rattle.alma_tree.specs.declared.kind.Kind.{Kind}
use Rattle.alma_tree.specs.Tree.{Module}
use Rattle.alma_tree.specs.Spelling.{spelling}
use Rattle.alma_tree.specs.Depth.{depth}
use Rattle.alma_grammar.specs.Parts.{whole}
use Rattle.alma_grammar.specs.Reading.{reading, End, done, unexpected, too_deep}
use Rattle.alma_grammar.specs.Filling.{WhereSome, open_after, finish}

-- Each tree's spelling is read to its end.
abbrev pub EachTreeIsRead : Type 0
EachTreeIsRead = (t : Module) → reading false (spelling t) 0 whole ≡ done

-- The tokens read so far, followed by the shortest rest of each part that is still open, are the spelling of a tree.
abbrev pub EachPrefixIsFinished : Type 0
EachPrefixIsFinished = (ks : List Kind) → WhereSome (open_after ks whole) (λ parts. (t : Module) × (spelling t ≡ ks ++ finish parts))

-- no tree's spelling goes on with the next token, or ends where none is left
abbrev pub Stops : (front rest : List Kind) → Type 0
Stops front [] = (t : Module) → spelling t ≡ front → ⊥
Stops front (k ∷ rest) = (t : Module) (more : List Kind) → spelling t ≡ front ++ (k ∷ more) → ⊥

-- some tree's spelling begins with these tokens
abbrev pub Begins : List Kind → Type 0
Begins front = (t : Module) × (more : List Kind) × (spelling t ≡ front ++ more)

-- Where reading ends at an unexpected token, some tree's spelling begins with the tokens before it, and none with them and it.
abbrev pub ExactPlace : Type 0
ExactPlace = (ks rest : List Kind) → reading true ks 0 whole ≡ unexpected rest
    → (front : List Kind) × (ks ≡ front ++ rest) × Stops front rest × Begins front

-- where reading ends so, how deep the tokens are that were read, and those with the next one
abbrev pub HasDepth : List Kind → End → Type 0
HasDepth ks done = depth ks ≤ depth_limit
HasDepth ks (unexpected rest) = (front : List Kind) × (ks ≡ front ++ rest) × (depth front ≤ depth_limit)
HasDepth ks (too_deep rest) = (front : List Kind) × (ks ≡ front ++ rest) × (depth front ≤ depth_limit)
    × (depth_limit < depth (front ++ take 1 rest))

-- The depth passes its limit at no token before the one that is refused, and passes it there where that is too deep.
abbrev pub ExactDepth : Type 0
ExactDepth = (ks : List Kind) → HasDepth ks (reading true ks 0 whole)

-- A list of kinds is a program where some tree spells it and its depth is within the limit.
abbrev pub IsProgram : List Kind → Type 0
IsProgram ks = ((t : Module) × (spelling t ≡ ks)) × (depth ks ≤ depth_limit)

-- Each program is read to its end, and what is read to its end is a program.
pub record EachProgramIsRead : Type 0 where
  pub programs_are_read : (ks : List Kind) → IsProgram ks → reading true ks 0 whole ≡ done
  pub what_is_read : (ks : List Kind) → reading true ks 0 whole ≡ done → IsProgram ks

-- No two trees have one spelling.
abbrev pub OneSpelling : Type 0
OneSpelling = (t u : Module) → spelling t ≡ spelling u → t ≡ u

-- the token behind this front is unexpected, and no token before it is too deep
pub record IsUnexpected (front rest : List Kind) : Type 0 where
  pub begins : Begins front
  pub stops : Stops front rest
  pub bounded : depth front ≤ depth_limit

-- the token behind this front may stand there, and it is the first that is too deep
pub record IsTooDeep (front rest : List Kind) : Type 0 where
  pub begins : Begins (front ++ take 1 rest)
  pub bounded : depth front ≤ depth_limit
  pub deep : depth_limit < depth (front ++ take 1 rest)

-- what an end says of the list, in words of trees and depths alone
abbrev pub IsExact : List Kind → End → Type 0
IsExact ks done = IsProgram ks
IsExact ks (unexpected rest) = (front : List Kind) × (ks ≡ front ++ rest) × IsUnexpected front rest
IsExact ks (too_deep rest) = (front : List Kind) × (ks ≡ front ++ rest) × IsTooDeep front rest

-- What is so of a list is how reading it ends, and of each list one of these facts holds and no other.
pub record ExactEnds : Type 0 where
  pub ends_so : (ks : List Kind) → IsExact ks (reading true ks 0 whole)
  pub only_so : (ks : List Kind) (e : End) → IsExact ks e → reading true ks 0 whole ≡ e
