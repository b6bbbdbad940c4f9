use Rattle.std.proofs.Common.{◌∷◌, ◌++◌, ◌+◌, ◌∙◌, sym, drop}
use Rattle.std.proofs.lemmas.List.{at_drop_more}
use Rattle.alma_tree.specs.declared.kind.Kind.TheVariants as kinds
use Rattle.alma_tree.specs.declared.leaf.Name.{Name}
use Rattle.alma_tree.specs.Spelling as spells
use Rattle.alma_tree.specs.View as view
use Rattle.alma_spell.proofs.type_node.push_name_tail.Goals as goal

pub loop-name-preserved : goal.loop-name-preserved
loop-name-preserved c = λ rest.
    let some_name : Name = record { node = 0; token = 0 } in
    let now = spells.spell_name_tail (view.name_tail_of (drop (c.loop-name._name-index + 1) c.args.trees.now)) rest in
    let x = at_drop_more (λ l. c.loop-name.out.items ++ spells.spell_name_tail (view.name_tail_of l) rest) c.args.trees.now
    c.loop-name._name-index some_name c.loop-name-test.true in
    c.in_ok-push-2.ensures.pushed now ∙ c.in_ok-push.ensures.pushed (kinds.Name ∷ now) ∙ sym x ∙ c.loop-name.invariant rest
