use Rattle.std.proofs.Common.{[], ◌∷◌, ◌++◌, ◌∙◌, ap, sym, append-nil}
use Rattle.alma_tree.specs.declared.kind.Kind.TheVariants as kinds
use Rattle.alma_tree.specs.Spelling as spells
use Rattle.alma_tree.specs.View as view
use Rattle.alma_spell.proofs.module.spell.Goals as goal

pub returns : goal.returns
returns c =
    let b = view.view_block c.args.tree.now.block in
    let e = kinds.End ∷ kinds.Name ∷ kinds.Dot ∷ [] in
    record {
      spelled = sym (append-nil c.push-6.new.out.items)
          ∙ c.in_ok-push-6.ensures.pushed []
          ∙ c.in_ok-push-5.ensures.pushed (kinds.Dot ∷ [])
          ∙ c.in_ok-push-4.ensures.pushed (kinds.Name ∷ kinds.Dot ∷ [])
          ∙ c.in_ok-push_block.ensures.pushed e
          ∙ c.in_ok-push-3.ensures.pushed (spells.spell_block b e)
          ∙ c.in_ok-push-2.ensures.pushed (kinds.Semicolon ∷ spells.spell_block b e)
          ∙ c.in_ok-push.ensures.pushed (kinds.Name ∷ kinds.Semicolon ∷ spells.spell_block b e)
          ∙ ap (λ xs. xs ++ spells.spelling (view.view_module c.args.tree.now)) c.new-out.ensures.items;
    }
