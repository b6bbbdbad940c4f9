use Rattle.std.proofs.Common.{sym, ap, ◌∙◌}
use Rattle.alma_ir.specs.Tree.{a_desig}
use Rattle.alma_ir.specs.View.{sels_list}
use Rattle.alma_lower_templates.specs.Slots.{fields_from, is_given, bare_desig}
use Rattle.alma_lower_work.proofs.Bare.{elsewhere}
use Rattle.alma_lower_work.proofs.Ready.{not_given}
use Rattle.alma_lower_work.proofs.first_operand.is_own.Goals as goal

pub returns-in-Local : goal.returns-in-Local
returns-in-Local c =
    c.are_fields.ensures c.in-Local.field-0 ∙ ap (λ x. is_given (fields_from c.in-Local.field-0 (sels_list x))) c.deref.ensures.value
    ∙ sym (ap (λ x. is_given (bare_desig (a_desig x c.args.desig.now.cells (sels_list c.args.desig.now.sels.items)))) c.in-Local.is)

pub returns-in-Global : goal.returns-in-Global
returns-in-Global c = not_given _ (elsewhere (λ k. k) c.args.desig.now.root _ _ c.in-Global.is)
