use Rattle.std.proofs.Common.{ap, ◌∙◌}
use Rattle.alma_code.specs.declared.instr.Instr.TheVariants as I
use Rattle.alma_lower_templates.specs.Tables.{range_number}
use Rattle.alma_lower_work.specs.Front.{around}
use Rattle.alma_lower_parts.proofs.Putting.{codes_is}
use Rattle.alma_lower_parts.proofs.form.put_chr.Goals as goal

pub returns-clause-codes : goal.returns-clause-codes
returns-clause-codes c =
    codes_is _ _ c.args.line _ _
    (ap (I.InRange c.args.value) (c.in_ok-range.ensures ∙ ap (range_number (around c.args.scene.now).tables) c.character.ensures))
    c.in_ok-put.ensures.codes
