-- Brackets: the tokens that open and close them, and how deep they nest.
use Rattle.std.specs.Prelude.{ℕ, ◌+◌, ◌-◌, max, Bool, true, false, List, [], ◌∷◌}
use Rattle.alma_tree.specs.declared.kind.Kind.{Kind}
use Rattle.alma_tree.specs.declared.kind.Kind.TheVariants as kinds

-- the tokens that open a bracket
abbrev pub opens : Kind → Bool
opens kinds.OpenParen = true
opens kinds.OpenBracket = true
opens kinds.Module = true
opens kinds.Procedure = true
opens kinds.Record = true
opens kinds.If = true
opens kinds.While = true
opens kinds.Repeat = true
opens kinds.For = true
opens kinds.Case = true
opens kinds.Either = true
opens kinds.Some = true
opens kinds.Forall = true
opens kinds.Commit = true
opens _ = false

-- the tokens that close one
abbrev pub closes : Kind → Bool
closes kinds.CloseParen = true
closes kinds.CloseBracket = true
closes kinds.End = true
closes kinds.Until = true
closes _ = false

-- one bracket where the token is of the sort that is counted, else none
abbrev pub one_where : Bool → ℕ
one_where true = 1
one_where false = 0

-- The greatest depth of any front, where so many brackets were opened and closed before. A depth is the number of brackets
-- opened less that of brackets closed.
abbrev pub depth_from : (opened closed : ℕ) → List Kind → ℕ
depth_from opened closed [] = opened - closed
depth_from opened closed (k ∷ ks) = max (opened - closed) (depth_from (opened + one_where (opens k)) (closed + one_where (closes k)) ks)

-- the greatest depth of any front of the list
abbrev pub depth : List Kind → ℕ
depth ks = depth_from 0 0 ks
