use Rattle.std.proofs.Common.{◌≡◌, List, ◌++◌, drop}
use Rattle.alma_tree.specs.declared.kind.Kind.{Kind}
use Rattle.alma_tree.specs.Spelling as spells
use Rattle.alma_tree.specs.View as view
use Rattle.alma_spell.proofs.module.+spell_blocks.Given as goal

abbrev pub invariant-push_decl_tail-loop-tree : goal.invariant-push_decl_tail-loop-tree
invariant-push_decl_tail-loop-tree l =
    (rest : List Kind) → l.out.items ++ spells.spell_decl_tail (view.decls_of (drop l.tree-index l.trees)) rest ≡ l.fn.out.items ++
    spells.spell_decl_tail (view.decls_of l.trees) rest
