use Rattle.std.proofs.Common.{◌≡◌, List, ◌++◌, drop}
use Rattle.alma_tree.specs.declared.kind.Kind.{Kind}
use Rattle.alma_tree.specs.Spelling as spells
use Rattle.alma_tree.specs.View as view
use Rattle.alma_spell.proofs.type_node.push_name_tail.Given as goal

abbrev pub invariant-loop-name : goal.invariant-loop-name
invariant-loop-name l =
    (rest : List Kind) → l.out.items ++ spells.spell_name_tail (view.name_tail_of (drop l._name-index l.trees)) rest ≡ l.fn.out.items ++
    spells.spell_name_tail (view.name_tail_of l.trees) rest
