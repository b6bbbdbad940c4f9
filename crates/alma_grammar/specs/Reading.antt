-- How reading a list of tokens ends.
use Rattle.std.specs.Prelude.{ℕ, suc, pred, Bool, true, false, ◌&&◌, List, [], ◌∷◌, Option, None, Some, nat_le}
use Rattle.alma_base.specs.Limits.{depth_limit}
use Rattle.alma_tree.specs.declared.kind.Kind.{Kind}
use Rattle.alma_tree.specs.Depth.{opens, closes}
use Rattle.alma_grammar.specs.Parts.{Part, next, all_skip}

-- all is read; or at these tokens none goes on, or the depth passes its limit at the first of them
pub data End : Type 0 where
  done : End
  unexpected : (rest : List Kind) → End
  too_deep : (rest : List Kind) → End

-- a depth behind a token that opens a bracket, closes one or does neither
abbrev pub next_depth : (opening closing : Bool) → ℕ → ℕ
next_depth true _ d = suc d
next_depth false true d = pred d
next_depth false false d = d

-- the depth behind a token
abbrev pub level : ℕ → Kind → ℕ
level d k = next_depth (opens k) (closes k) d

-- how reading ends where no token is left: well, if the program may end here
abbrev pub at_end : Bool → End
at_end true = done
at_end false = unexpected []

-- reading ends at a token with which the depth would pass its limit, and goes on at others
abbrev pub unless_deep : Bool → List Kind → End → End
unless_deep true ks _ = too_deep ks
unless_deep false _ e = e

-- reading ends at a token that may not stand here, and goes on at others as said
abbrev pub goes_on : Option (List Part) → Bool → List Kind → (List Part → End) → End
goes_on None deep ks go = unexpected ks
goes_on (Some parts) deep ks go = unless_deep deep ks (go parts)

-- How reading the tokens ends where these parts are open at this depth. With `checked` the depth is held to its limit.
abbrev pub reading : (checked : Bool) → List Kind → (depth : ℕ) → (open_parts : List Part) → End
reading checked [] d open_parts = at_end (all_skip open_parts)
reading checked (k ∷ ks) d open_parts =
    goes_on (next open_parts k) (checked && (opens k && nat_le depth_limit d)) (k ∷ ks) (reading checked ks (level d k))
