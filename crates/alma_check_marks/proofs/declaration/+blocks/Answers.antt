use Rattle.std.proofs.Common.{refl, ap, ◌∙◌}
use Rattle.alma_rules.specs.Places as places
use Rattle.alma_rules.specs.View as view
use Rattle.alma_rules.proofs.TypeRows as types
use Rattle.alma_check_marks.proofs.Steps.{◌▹◌, ◌▸◌, ends, next, finish}
use Rattle.alma_check_marks.proofs.declaration.+blocks.Goals as goal

pub mark_block-returns : goal.mark_block-returns
unfolding places.mark_block
mark_block-returns t c = ends c.node.result _ _ ((rw c.deref.ensures.value at c.in_ok-mark_decls.ensures) ▹ c.in_ok-mark_body.ensures)
    c.node.ensures

pub mark_decls-loop-decl-preserved : goal.mark_decls-loop-decl-preserved
unfolding places.mark_block
mark_decls-loop-decl-preserved t c = next (λ xs. places.mark_decls (view.decls_of xs)) c.loop-decl.decl-index c.args.decls.now
    c.decl-item.result c.loop-decl-test.true c.decl-item.is c.loop-decl.invariant ▸ c.in_ok-mark_decl.ensures

pub mark_decls-returns : goal.mark_decls-returns
unfolding places.mark_block
mark_decls-returns t c = finish (λ xs. places.mark_decls (view.decls_of xs)) c.loop-decl.decl-index c.args.decls.now c.loop-decl-test.false
    refl c.loop-decl.invariant

pub mark_decl-returns-in_ok-mark_consts-in-Const : goal.mark_decl-returns-in_ok-mark_consts-in-Const
unfolding places.mark_block
mark_decl-returns-in_ok-mark_consts-in-Const t c =
    rw c.in-Const.is (ends c.node.result _ _ (c.in_ok-token.ensures ▹ (rw c.deref.ensures.value at c.in_ok-mark_consts-in-Const.ensures))
    c.node.ensures)

pub mark_decl-returns-in_ok-mark_type_entries-in-Type : goal.mark_decl-returns-in_ok-mark_type_entries-in-Type
unfolding places.mark_block
mark_decl-returns-in_ok-mark_type_entries-in-Type t c =
    rw c.in-Type.is (ends c.node-in-Type.result _ _
    (c.in_ok-token.ensures ▹ (rw c.deref-in-Type.ensures.value at c.in_ok-mark_type_entries-in-Type.ensures)) c.node-in-Type.ensures)

pub mark_decl-returns-in_ok-mark_vars-in-Var : goal.mark_decl-returns-in_ok-mark_vars-in-Var
unfolding places.mark_block
mark_decl-returns-in_ok-mark_vars-in-Var t c =
    rw c.in-Var.is (ends c.node-in-Var.result _ _
    (c.in_ok-token.ensures ▹ (rw c.deref-in-Var.ensures.value at c.in_ok-mark_vars-in-Var.ensures)) c.node-in-Var.ensures)

pub mark_decl-returns-in_ok-token-in-Procedure-3 : goal.mark_decl-returns-in_ok-token-in-Procedure-3
unfolding places.mark_block
mark_decl-returns-in_ok-token-in-Procedure-3 t c =
    rw (ap view.view_decl c.in-Procedure.is ∙ types.procedure_is c.in-Procedure.node c.in-Procedure.name c.in-Procedure.params
    c.in-Procedure.returns c.in-Procedure.block c.in-Procedure.end_name)
    (ends c.node-in-Procedure.result _ _ (c.in_ok-token.ensures ▹ c.in_ok-leaf-in-Procedure.ensures
    ▹ c.in_ok-mark_params-in-Procedure.ensures ▹ c.in_ok-mark_result-in-Procedure.ensures ▹ c.in_ok-token-in-Procedure.ensures
    ▹ c.in_ok-mark_block-in-Procedure.ensures ▹ c.in_ok-token-in-Procedure-2.ensures ▹ c.in_ok-leaf-in-Procedure-2.ensures
    ▹ c.in_ok-token-in-Procedure-3.ensures) c.node-in-Procedure.ensures)
