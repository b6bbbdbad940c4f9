use Rattle.std.proofs.Common.{◌≡◌, ◌∷◌, ◌++◌, ◌∙◌, ap, sym}
use Rattle.alma_tree.specs.declared.kind.Kind.TheVariants as kinds
use Rattle.alma_tree.specs.declared.type_node.TypeNode as dy
use Rattle.alma_tree.specs.Spelling as spells
use Rattle.alma_tree.specs.View as view
use Rattle.alma_tree.specs.Tree as tree
use Rattle.alma_tree.proofs.Rows as rows
use Rattle.alma_spell.proofs.Ends as ends
use Rattle.alma_spell.proofs.type_node.+spell_types.Goals as goal

pub push_plain_type-returns-in_ok-push_field_list_tail-in-Record : goal.push_plain_type-returns-in_ok-push_field_list_tail-in-Record
push_plain_type-returns-in_ok-push_field_list_tail-in-Record t c =
    let x0 = ap view.view_plain_type c.in-Record.is in
    let x1 = rows.record_laid c.in-Record.node c.in-Record.first c.in-Record.more in
    let x2 = ap view.view_field_list c.deref.ensures in
    let x3 = ap view.field_lists_of c.deref-in-Record.ensures.value in
    let l : view.view_plain_type c.args.tree.now ≡ tree.record_type (view.view_field_list c.deref.result.now) (view.field_lists_of
    c.deref-in-Record.result.now) = cc in
    record {
      pushed = ends.pushed_last c.push-in-Record-2.result c.push-in-Record-2.new.out.items c.push_field_list_tail.new.out.items
          c.args.out.now.items
          (λ r. kinds.End ∷ r) (spells.spell_plain_type (view.view_plain_type c.args.tree.now))
          c.push-in-Record-2.ensures.pushed (λ rest.
          c.in_ok-push_field_list_tail-in-Record.ensures.pushed (kinds.End ∷ rest)
          ∙ c.in_ok-push_field_list-in-Record.ensures.pushed
          (spells.spell_field_list_tail (view.field_lists_of c.deref-in-Record.result.now)
          (kinds.End ∷ rest))
          ∙ c.in_ok-push-in-Record.ensures.pushed (spells.spell_field_list (view.view_field_list c.deref.result.now)
          (spells.spell_field_list_tail
          (view.field_lists_of c.deref-in-Record.result.now) (kinds.End ∷ rest)))
          ∙ ap (λ v. c.args.out.now.items ++ spells.spell_plain_type v rest) (sym l));
    }

pub push_type_node-returns : goal.push_type_node-returns
push_type_node-returns t c =
    let x0 = ends.type_laid c.args.tree.now in
    let l : view.view_type_node c.args.tree.now ≡ tree.type_node (view.arrays_of (dy.out-TypeNode c.args.tree.now).arrays)
    (view.view_plain_type
    (dy.out-TypeNode c.args.tree.now).element) = cc in
    record {
      pushed = ends.pushed_last c.push_plain_type.result c.push_plain_type.new.out.items c.push_arrays.new.out.items c.args.out.now.items
          (spells.spell_plain_type (view.view_plain_type (dy.out-TypeNode c.args.tree.now).element))
          (spells.spell_type_node (view.view_type_node
          c.args.tree.now))
          c.push_plain_type.ensures.pushed (λ rest.
          c.in_ok-push_arrays.ensures.pushed (spells.spell_plain_type (view.view_plain_type (dy.out-TypeNode c.args.tree.now).element) rest)
          ∙ ap (λ v. c.args.out.now.items ++ spells.spell_type_node v rest) (sym l));
    }
