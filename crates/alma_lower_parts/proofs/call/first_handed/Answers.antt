use Rattle.std.proofs.Common.{rules, ◌∙◌, ap, sym}
use Rattle.alma_ir.specs.View.{args_list}
use Rattle.alma_lower_work.specs.Puts.{first_of_call}
use Rattle.alma_lower_parts.proofs.Calling.{some_args}
use Rattle.alma_lower_parts.proofs.call.first_handed.Goals as goal

pub returns-else-is_empty : goal.returns-else-is_empty
returns-else-is_empty c = some_args c.args.args.now c.args.to (λ h. search (rules, h))
    ∙ ap (λ o. first_of_call o (args_list c.args.args.now) c.args.to) (sym c.in-None.is)
