-- What a node is that takes memory of its own: its view and its numbers.
use Rattle.std.specs.Prelude.{◌≡◌, ℕ, Option}
use Rattle.std.specs.declared.boxed.Box.{Box}
use Rattle.std.specs.declared.vec.Vec.{Vec}
use Rattle.std.specs.declared.alloc.Global.{Global}
use Rattle.alma_tree.specs.declared.leaf.Relation.{Relation}
use Rattle.alma_tree.specs.declared.leaf.Sign.{Sign}
use Rattle.alma_tree.specs.declared.phrase.AddLink.{AddLink}
use Rattle.alma_tree.specs.declared.phrase.Compared.{Compared}
use Rattle.alma_tree.specs.declared.phrase.Simple.{Simple}
use Rattle.alma_tree.specs.declared.phrase.Term.{Term}
use Rattle.alma_tree.specs.Tree as tree
use Rattle.alma_tree.specs.View.{compared_of, view_simple, view_term, terms_of}
use Rattle.alma_tree.specs.Numbers.{token, node, ◌>>◌, number_sign, number_simple, number_term, numbers_of_compared, numbers_of_terms}

-- what an expression is compared with, of its relation and its right side
abbrev pub ComparedWith : Relation → Simple → Option (Box Compared Global) → Type 0
ComparedWith relation right c = (compared_of c ≡ tree.compared relation (view_simple right))
    × (numbers_of_compared c ≡ (token >> number_simple right))

-- a sum, of its sign, its first term, and the others with the number of the node
abbrev pub SumOf : Option Sign → Term → (Vec AddLink Global × ℕ) → Simple → Type 0
SumOf sign first v s = (view_simple s ≡ tree.simple sign (view_term first) (terms_of v.0.items))
    × (number_simple s ≡ (number_sign sign >> number_term first >> numbers_of_terms v.0.items >> node v.1))
