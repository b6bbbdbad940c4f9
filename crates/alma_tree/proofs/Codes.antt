-- The number of each kind is its place among the variants.
use Rattle.std.proofs.Common.{◌≡◌, refl}
use Rattle.alma_tree.specs.declared.kind.Kind.{Kind}
use Rattle.alma_tree.specs.declared.kind.Kind.TheVariants as kinds
use Rattle.alma_tree.specs.contracts.kind.Kind.{the_type}
use Rattle.alma_tree.specs.Kinds.{code}
use denote.Enum.Declared.{tag_of}

pub tag_is_code : (k : Kind) → tag_of the_type k ≡ code k
tag_is_code kinds.Name = refl
tag_is_code kinds.Number = refl
tag_is_code kinds.Literal = refl
tag_is_code kinds.Semicolon = refl
tag_is_code kinds.Comma = refl
tag_is_code kinds.Dot = refl
tag_is_code kinds.DotDot = refl
tag_is_code kinds.Colon = refl
tag_is_code kinds.Assign = refl
tag_is_code kinds.OpenParen = refl
tag_is_code kinds.CloseParen = refl
tag_is_code kinds.OpenBracket = refl
tag_is_code kinds.CloseBracket = refl
tag_is_code kinds.Equal = refl
tag_is_code kinds.Unequal = refl
tag_is_code kinds.Less = refl
tag_is_code kinds.LessEq = refl
tag_is_code kinds.Greater = refl
tag_is_code kinds.GreaterEq = refl
tag_is_code kinds.Plus = refl
tag_is_code kinds.Minus = refl
tag_is_code kinds.Star = refl
tag_is_code kinds.Bar = refl
tag_is_code kinds.And = refl
tag_is_code kinds.Array = refl
tag_is_code kinds.Begin = refl
tag_is_code kinds.By = refl
tag_is_code kinds.Case = refl
tag_is_code kinds.Chr = refl
tag_is_code kinds.Commit = refl
tag_is_code kinds.Const = refl
tag_is_code kinds.Div = refl
tag_is_code kinds.Do = refl
tag_is_code kinds.Either = refl
tag_is_code kinds.Else = refl
tag_is_code kinds.Elsif = refl
tag_is_code kinds.End = refl
tag_is_code kinds.For = refl
tag_is_code kinds.Forall = refl
tag_is_code kinds.If = refl
tag_is_code kinds.Known = refl
tag_is_code kinds.Mix = refl
tag_is_code kinds.Mod = refl
tag_is_code kinds.Module = refl
tag_is_code kinds.Not = refl
tag_is_code kinds.Of = refl
tag_is_code kinds.Or = refl
tag_is_code kinds.Ord = refl
tag_is_code kinds.Orelse = refl
tag_is_code kinds.Procedure = refl
tag_is_code kinds.Read = refl
tag_is_code kinds.Record = refl
tag_is_code kinds.Repeat = refl
tag_is_code kinds.Return = refl
tag_is_code kinds.Some = refl
tag_is_code kinds.Then = refl
tag_is_code kinds.To = refl
tag_is_code kinds.Type = refl
tag_is_code kinds.Until = refl
tag_is_code kinds.Var = refl
tag_is_code kinds.While = refl
tag_is_code kinds.Write = refl
tag_is_code kinds.Writeln = refl
