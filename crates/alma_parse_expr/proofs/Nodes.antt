-- Nodes in boxes.
use Rattle.std.proofs.Common.{◌≡◌, ℕ, Option, Some, Box, Vec, Global, ap, ◌∙◌}
use Rattle.alma_tree.specs.declared.leaf.Relation.{Relation}
use Rattle.alma_tree.specs.declared.leaf.Sign.{Sign}
use Rattle.alma_tree.specs.declared.phrase.AddLink as dk
use Rattle.alma_tree.specs.declared.phrase.Compared as dc
use Rattle.alma_tree.specs.declared.phrase.Simple as di
use Rattle.alma_tree.specs.declared.phrase.Term as dm
use Rattle.alma_tree.specs.Tree as tree
use Rattle.alma_tree.specs.View.{view_simple, view_term, terms_of}
use Rattle.alma_tree.specs.Numbers.{token, node, ◌>>◌, number_sign, number_simple, number_term, numbers_of_terms}
use Rattle.alma_tree.proofs.Rows as rows
use Rattle.alma_tree.proofs.NumberRows as numbers
use Rattle.alma_parse_expr.specs.Nodes.{ComparedWith, SumOf}

pub compared_made : (relation : Relation) (right : di.Simple) (b : Box dc.Compared Global)
    → b.value ≡ dc.roll-Compared (record { relation = relation; right = right }) → ComparedWith relation right (Some b)
compared_made relation right b h = (
  ap (λ v. tree.compared (dc.out-Compared v).relation (view_simple (dc.out-Compared v).right)) h
      ∙ ap (λ o. tree.compared o.relation (view_simple o.right)) (dc.out-roll-Compared (record { relation = relation; right = right })),
  ap (λ v. token >> number_simple (dc.out-Compared v).right) h
      ∙ ap (λ o. token >> number_simple o.right) (dc.out-roll-Compared (record { relation = relation; right = right })),
)

pub sum_made : (sign : Option Sign) (first : dm.Term) (more : Vec dk.AddLink Global) (n : ℕ) (b : Box dm.Term Global) → b.value ≡ first
    → SumOf sign first (more, n) (di.roll-Simple (record { node = n; sign = sign; first = b; more = more }))
sum_made sign first more n b h = (
  rows.simple_rolled (record { node = n; sign = sign; first = b; more = more })
      ∙ ap (λ v. tree.simple sign (view_term v) (terms_of more.items)) h,
  numbers.simple_rolled (record { node = n; sign = sign; first = b; more = more })
      ∙ ap (λ v. number_sign sign >> number_term v >> numbers_of_terms more.items >> node n) h,
)
