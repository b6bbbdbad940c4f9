-- What was read before the last part of a loop.
use Rattle.std.proofs.Common.{◌≡◌, ℕ, true, ◌∷◌, refl}
use Rattle.alma_tree.specs.declared.kind.Kind.{Kind}
use Rattle.alma_tree.specs.declared.kind.Kind.TheVariants as kinds
use Rattle.alma_tree.specs.declared.leaf.Name.{Name}
use Rattle.alma_tree.specs.Depth.{opens}
use Rattle.alma_tree.specs.Numbers.{token, ◌>>◌, number_name}
use Rattle.alma_grammar.specs.Parts.{one}
use Rattle.alma_parse_cursor.specs.Parsing.{At}
use Rattle.alma_parse_cursor.proofs.Steps.{opened, passed}
use Rattle.alma_parse_expr.proofs.Fronts.{Front, part, and_then}
use Rattle.alma_parse_stmt.specs.Heads.{BeginsLoop}

-- the head of a loop
pub loop_front : {k : Kind} {v : Name} {d e : ℕ} {a b : At} → opens k ≡ true → BeginsLoop k v d e a b
    → Front (λ t ks. k ∷ kinds.Name ∷ kinds.Assign ∷ t ks) (λ m. token >> number_name v >> token >> m)
    (λ q o. one k ∷ one kinds.Name ∷ one kinds.Assign ∷ q o) d e a b
loop_front h x = and_then (part (opened h x.opens_first)) (and_then (part x.named) (part (passed refl refl x.assigned)))
