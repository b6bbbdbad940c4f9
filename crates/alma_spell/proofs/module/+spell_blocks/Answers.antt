use Rattle.std.proofs.Common.{◌≡◌, ◌∷◌, ◌++◌, ◌∙◌, ap, sym}
use Rattle.alma_tree.specs.declared.kind.Kind.TheVariants as kinds
use Rattle.alma_tree.specs.Spelling as spells
use Rattle.alma_tree.specs.View as view
use Rattle.alma_tree.specs.Tree as tree
use Rattle.alma_tree.proofs.Rows as rows
use Rattle.alma_spell.proofs.Ends as ends
use Rattle.alma_spell.proofs.module.+spell_blocks.Goals as goal

pub push_decl-returns-in_ok-push-in-Procedure-5 : goal.push_decl-returns-in_ok-push-in-Procedure-5
push_decl-returns-in_ok-push-in-Procedure-5 t c =
    let x0 = ap view.view_decl c.in-Procedure.is in
    let x1 = rows.procedure_laid c.in-Procedure.node c.in-Procedure.name c.in-Procedure.params c.in-Procedure.result c.in-Procedure.block
    c.in-Procedure.end_name in
    let l : view.view_decl c.args.tree.now ≡ tree.procedure (view.params_of c.in-Procedure.params) (view.result_of c.in-Procedure.result)
    (view.view_block c.in-Procedure.block) = cc in
    record {
      pushed = ends.pushed_last c.push-in-Procedure-6.result c.push-in-Procedure-6.new.out.items c.push-in-Procedure-5.new.out.items
          c.args.out.now.items (λ r. kinds.Semicolon ∷ r) (spells.spell_decl (view.view_decl c.args.tree.now))
          c.push-in-Procedure-6.ensures.pushed (λ rest.
          c.in_ok-push-in-Procedure-5.ensures.pushed (kinds.Semicolon ∷ rest)
          ∙ c.in_ok-push-in-Procedure-4.ensures.pushed (kinds.Name ∷ (kinds.Semicolon ∷ rest))
          ∙ c.in_ok-push_block-in-Procedure.ensures.pushed (kinds.End ∷ (kinds.Name ∷ (kinds.Semicolon ∷ rest)))
          ∙ c.in_ok-push-in-Procedure-3.ensures.pushed (spells.spell_block (view.view_block c.in-Procedure.block) (kinds.End ∷ (kinds.Name ∷
          (kinds.Semicolon ∷ rest))))
          ∙ c.in_ok-push_result-in-Procedure.ensures.pushed
          (kinds.Semicolon ∷ (spells.spell_block (view.view_block c.in-Procedure.block) (kinds.End
          ∷ (kinds.Name ∷ (kinds.Semicolon ∷ rest)))))
          ∙ c.in_ok-push_params-in-Procedure.ensures.pushed
          (spells.spell_result_name (view.result_of c.in-Procedure.result) (kinds.Semicolon ∷
          (spells.spell_block (view.view_block c.in-Procedure.block) (kinds.End ∷ (kinds.Name ∷ (kinds.Semicolon ∷ rest))))))
          ∙ c.in_ok-push-in-Procedure-2.ensures.pushed (spells.spell_params (view.params_of c.in-Procedure.params) (spells.spell_result_name
          (view.result_of c.in-Procedure.result) (kinds.Semicolon ∷ (spells.spell_block (view.view_block c.in-Procedure.block) (kinds.End ∷
          (kinds.Name ∷ (kinds.Semicolon ∷ rest)))))))
          ∙ c.in_ok-push-in-Procedure.ensures.pushed (kinds.Name ∷ (spells.spell_params (view.params_of c.in-Procedure.params)
          (spells.spell_result_name (view.result_of c.in-Procedure.result) (kinds.Semicolon ∷ (spells.spell_block (view.view_block
          c.in-Procedure.block) (kinds.End ∷ (kinds.Name ∷ (kinds.Semicolon ∷ rest))))))))
          ∙ ap (λ v. c.args.out.now.items ++ spells.spell_decl v rest) (sym l));
    }
