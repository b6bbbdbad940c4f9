use Rattle.std.proofs.Common.{ap, ◌∙◌}
use Rattle.alma_ir.specs.View.{stmts_list}
use Rattle.alma_ir.specs.Lines.{stmt_count}
use Rattle.alma_ir.specs.Phrases.{stmts_phrases}
use Rattle.alma_listing.proofs.Parts.{list_procedure_is}
use Rattle.alma_listing.proofs.procedure.list_procedure.Goals as goal

pub returns : goal.returns
returns c =
    list_procedure_is _ _ _ _ _ _ _ (c.in_ok-to_vec.ensures.items_if_clones_equal (λ x y e. e)) c.new.ensures.items c.in_ok-body.ensures
    (c.in_ok-stmts_inside.ensures ∙ ap (λ xs. stmt_count (stmts_phrases (stmts_list xs))) c.deref.ensures.value)
    (c.in_ok-lines.ensures.items_if_clones_equal (λ y e. e))
