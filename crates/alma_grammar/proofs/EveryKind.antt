-- Tests of every kind, by a list of the kinds.
use Rattle.std.proofs.Common.{◌≡◌, ℕ, zero, suc, Bool, true, ◌&&◌, List, [], ◌∷◌, nat_eq, refl, ap, sym, ◌∙◌, subst}
use Rattle.std.proofs.lemmas.Bool.{eqb-true, and_parts}
use Rattle.alma_tree.specs.declared.kind.Kind.{Kind}
use Rattle.alma_tree.specs.declared.kind.Kind.TheVariants as kinds
use Rattle.alma_tree.specs.Kinds.{code}

-- the kinds, in the order of their numbers
abbrev pub all_kinds : List Kind
all_kinds =
    kinds.Name ∷ kinds.Number ∷ kinds.Literal ∷ kinds.Semicolon ∷ kinds.Comma ∷ kinds.Dot ∷ kinds.DotDot ∷ kinds.Colon ∷ kinds.Assign ∷
    kinds.OpenParen ∷ kinds.CloseParen ∷ kinds.OpenBracket ∷ kinds.CloseBracket ∷ kinds.Equal ∷ kinds.Unequal ∷ kinds.Less ∷ kinds.LessEq ∷
    kinds.Greater ∷ kinds.GreaterEq ∷ kinds.Plus ∷ kinds.Minus ∷ kinds.Star ∷ kinds.Bar ∷ kinds.And ∷ kinds.Array ∷ kinds.Begin ∷ kinds.By ∷
    kinds.Case ∷ kinds.Chr ∷ kinds.Commit ∷ kinds.Const ∷ kinds.Div ∷ kinds.Do ∷ kinds.Either ∷ kinds.Else ∷ kinds.Elsif ∷ kinds.End
    ∷ kinds.For ∷
    kinds.Forall ∷ kinds.If ∷ kinds.Known ∷ kinds.Mix ∷ kinds.Mod ∷ kinds.Module ∷ kinds.Not ∷ kinds.Of ∷ kinds.Or ∷ kinds.Ord
    ∷ kinds.Orelse ∷
    kinds.Procedure ∷ kinds.Read ∷ kinds.Record ∷ kinds.Repeat ∷ kinds.Return ∷ kinds.Some ∷ kinds.Then ∷ kinds.To ∷ kinds.Type
    ∷ kinds.Until ∷
    kinds.Var ∷ kinds.While ∷ kinds.Write ∷ kinds.Writeln ∷ []

-- the kind that stands at a place of a list
abbrev kind_at : List Kind → ℕ → Kind
kind_at [] n = kinds.Name
kind_at (k ∷ ks) zero = k
kind_at (k ∷ ks) (suc n) = kind_at ks n

-- each kind stands at the place of its number
at_its_number : (k : Kind) → kind_at all_kinds (code k) ≡ k
at_its_number kinds.Name = refl
at_its_number k = refl

-- kinds with one number are one kind
pub same_kind : (a k : Kind) → nat_eq (code a) (code k) ≡ true → a ≡ k
same_kind a k h = sym (at_its_number a) ∙ ap (kind_at all_kinds) (eqb-true (code a) (code k) h) ∙ at_its_number k

-- whether a test is so of each kind of a list
abbrev pub each : (Kind → Bool) → List Kind → Bool
each f [] = true
each f (k ∷ ks) = f k && each f ks

-- a test that is so of each kind of a list is so of the one at a place
so_at : (f : Kind → Bool) (ks : List Kind) (n : ℕ) → f kinds.Name ≡ true → each f ks ≡ true → f (kind_at ks n) ≡ true
so_at f [] n h e = h
so_at f (k ∷ ks) zero h e = (and_parts (f k) (each f ks) e).0
so_at f (k ∷ ks) (suc n) h e = so_at f ks n h (and_parts (f k) (each f ks) e).1

-- a test that is so of each kind of the list is so of every kind
pub of_every_kind : (f : Kind → Bool) → each f all_kinds ≡ true → (k : Kind) → f k ≡ true
of_every_kind f e k =
    subst (λ x. f x ≡ true) (at_its_number k) (so_at f all_kinds (code k) (and_parts (f kinds.Name) _ e).0 e)
