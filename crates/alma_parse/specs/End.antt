-- What stands behind the END of a module: its name, a point, and the number of the module's node.
use Rattle.std.specs.Prelude.{ℕ, List, ◌∷◌}
use Rattle.alma_tree.specs.declared.kind.Kind.{Kind}
use Rattle.alma_tree.specs.declared.kind.Kind.TheVariants as kinds
use Rattle.alma_tree.specs.declared.leaf.Name.{Name}
use Rattle.alma_tree.specs.Numbers.{Step, token, node, ◌>>◌, number_name}
use Rattle.alma_grammar.specs.Parts.{Part, one}

-- Name "."
abbrev pub spell_end : List Kind → List Kind
spell_end rest = kinds.Name ∷ kinds.Dot ∷ rest

-- the name, the point, and the node that ends there
abbrev pub number_end : Name → ℕ → Step
number_end name n = number_name name >> token >> node n

-- Name "."
abbrev pub end_parts : List Part → List Part
end_parts o = one kinds.Name ∷ one kinds.Dot ∷ o
