-- The primary that a sum, a product or a factor is, without sign and operators.
use Rattle.std.specs.Prelude.{Option, None, Some, if◌then◌else◌}
use Rattle.alma_rules.specs.Numbered as tree
use Rattle.alma_check_join_expr.specs.Single.{one_term, one_factor}

-- the primary of a factor without NOT
unfoldable pub factor_alone : tree.Factor → Option tree.Primary
factor_alone (tree.factor i p) = Some p
factor_alone (tree.not_factor i p) = None

-- the primary of a product of one factor, where that has no NOT
unfoldable pub term_alone : tree.Term → Option tree.Primary
term_alone (tree.term k f rest) = if one_factor rest then factor_alone f else None

-- the primary of a sum of one such term, without a sign
unfoldable pub simple_alone : tree.Simple → Option tree.Primary
simple_alone (tree.simple m sign t rest) = if one_term sign rest then term_alone t else None
