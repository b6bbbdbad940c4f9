use Rattle.std.proofs.Common.{◌≡◌, List, ◌++◌, drop}
use Rattle.alma_tree.specs.declared.kind.Kind.{Kind}
use Rattle.alma_tree.specs.Spelling as spells
use Rattle.alma_tree.specs.View as view
use Rattle.alma_spell.proofs.module.push_formal_tail.Given as goal

abbrev pub invariant-loop-tree : goal.invariant-loop-tree
invariant-loop-tree l =
    (rest : List Kind) → l.out.items ++ spells.spell_formal_tail (view.formal_tail_of (drop l.tree-index l.trees)) rest ≡ l.fn.out.items ++
    spells.spell_formal_tail (view.formal_tail_of l.trees) rest
