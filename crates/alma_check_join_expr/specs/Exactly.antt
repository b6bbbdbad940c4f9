-- What an expression exactly is.
use Rattle.std.specs.Prelude.{ℕ, nat_eq, length, List, Option, None, Some, if◌then◌else◌}
use Rattle.alma_rules.specs.Scene.{Scene, literal_at}
use Rattle.alma_rules.specs.Numbered as tree
use Rattle.alma_check_join_expr.specs.Alone.{simple_alone}

-- the primary that an expression is, without sign, operator or relation
unfoldable pub only_primary : tree.Expr → Option tree.Primary
only_primary (tree.expr n s tree.no_relation) = simple_alone s
only_primary (tree.expr n s (tree.compared o y)) = None

-- the designator that a primary is
unfoldable pub named_by : tree.Primary → Option tree.Desig
named_by (tree.named j d tree.no_args) = Some d
named_by p = None

-- the node and the token of the literal that a primary is
unfoldable pub literal_of : tree.Primary → Option (ℕ × ℕ)
literal_of (tree.literal j t) = Some (j, t)
literal_of p = None

-- a literal that is a whole item of WRITE, but no CHAR: its node and its bytes
abbrev pub text_of : Scene → ℕ × ℕ → Option (ℕ × List ℕ)
text_of s l = if nat_eq (length (literal_at s l.1)) 1 then None else Some (l.0, literal_at s l.1)
