-- Kinds of one code are one kind.
use Rattle.std.proofs.Common.{◌≡◌, true, rules, nat_eq}
use Rattle.alma_tree.specs.declared.kind.Kind.{Kind}
use Rattle.alma_tree.specs.contracts.kind.Kind.{the_type}
use Rattle.alma_tree.specs.Kinds.{code}
use Rattle.alma_tree.proofs.Codes.{tag_is_code}
use denote.Enum.Bare.{same_true}

pub one_kind : (a b : Kind) → nat_eq (code a) (code b) ≡ true → a ≡ b
one_kind a b h = same_true the_type (search rules) a b (rw (tag_is_code a, tag_is_code b) h)
