use Rattle.std.proofs.Common.{◌∙◌, ap}
use Rattle.alma_lower_templates.specs.Pieces.{read_code}
use Rattle.alma_lower_parts.proofs.Putting.{codes_is}
use Rattle.alma_lower_work.proofs.Joins.{on_ok_map}
use Rattle.alma_lower_parts.proofs.form.put_read.Goals as goal

pub returns : goal.returns
returns c = on_ok_map c.add.result (codes_is _ _ c.args.line _ _
    (c.read_instr.ensures ∙ ap (read_code c.args.how c.args.place) c.in_ok-range.ensures)) c.add.ensures
