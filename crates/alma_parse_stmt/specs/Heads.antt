-- How a statement begins.
use Rattle.std.specs.Prelude.{ℕ, ◌∷◌}
use Rattle.alma_tree.specs.declared.kind.Kind.{Kind}
use Rattle.alma_tree.specs.declared.kind.Kind.TheVariants as kinds
use Rattle.alma_tree.specs.declared.leaf.Name.{Name}
use Rattle.alma_tree.specs.Numbers.{number_name}
use Rattle.alma_grammar.specs.Parts.{one}
use Rattle.alma_parse_cursor.specs.Parsing.{At, Passes, Opens, Reads}

-- From a to b, and from depth d to depth e, it passed a word that opens a loop, the loop's variable, and the sign of assignment.
pub record BeginsLoop (k : Kind) (variable : Name) (d e : ℕ) (a b : At) : Type 0 where
  pub first : At
  pub second : At
  pub opens_first : Opens k d e a first
  pub named : Reads (λ r. kinds.Name ∷ r) (number_name variable) (λ o. one kinds.Name ∷ o) e e first second
  pub assigned : Passes kinds.Assign second b
