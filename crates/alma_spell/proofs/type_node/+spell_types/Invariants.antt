use Rattle.std.proofs.Common.{◌≡◌, List, ◌++◌, drop}
use Rattle.alma_tree.specs.declared.kind.Kind.{Kind}
use Rattle.alma_tree.specs.Spelling as spells
use Rattle.alma_tree.specs.View as view
use Rattle.alma_spell.proofs.type_node.+spell_types.Given as goal

abbrev pub invariant-push_dimension_tail-loop-tree : goal.invariant-push_dimension_tail-loop-tree
invariant-push_dimension_tail-loop-tree l =
    (rest : List Kind) → l.out.items ++ spells.spell_array_tail (view.dimensions_of (drop l.tree-index l.trees)) rest ≡ l.fn.out.items ++
    spells.spell_array_tail (view.dimensions_of l.trees) rest

abbrev pub invariant-push_plain_tail-loop-tree : goal.invariant-push_plain_tail-loop-tree
invariant-push_plain_tail-loop-tree l =
    (rest : List Kind) → l.out.items ++ spells.spell_plain_tail (view.plains_of (drop l.tree-index l.trees)) rest ≡ l.fn.out.items ++
    spells.spell_plain_tail (view.plains_of l.trees) rest

abbrev pub invariant-push_field_list_tail-loop-tree : goal.invariant-push_field_list_tail-loop-tree
invariant-push_field_list_tail-loop-tree l =
    (rest : List Kind) → l.out.items ++ spells.spell_field_list_tail (view.field_lists_of (drop l.tree-index l.trees)) rest ≡ l.fn.out.items
    ++
    spells.spell_field_list_tail (view.field_lists_of l.trees) rest
