-- A sum of one term, and a product of one factor.
use Rattle.std.specs.Prelude.{Bool, true, false, Option, None, Some}
use Rattle.alma_tree.specs.declared.leaf.Sign.{Sign}
use Rattle.alma_rules.specs.Numbered as tree

-- a sum has no sign and no operator, by its sign and what stands behind its first term
abbrev pub one_term : Option Sign → tree.TermTail → Bool
one_term None tree.no_term = true
one_term None (tree.more_term o t rest) = false
one_term (Some sign) rest = false

-- a product has no operator, by what stands behind its first factor
abbrev pub one_factor : tree.FactorTail → Bool
one_factor tree.no_factor = true
one_factor (tree.more_factor o f rest) = false
