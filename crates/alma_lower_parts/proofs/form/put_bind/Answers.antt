use Rattle.std.proofs.Common.{ap}
use Rattle.alma_code.specs.declared.instr.Instr.TheVariants as I
use Rattle.alma_lower_parts.proofs.Putting.{codes_is}
use Rattle.alma_lower_work.proofs.Joins.{on_ok_map}
use Rattle.alma_lower_parts.proofs.form.put_bind.Goals as goal

pub returns : goal.returns
returns c = on_ok_map c.add.result (codes_is _ _ c.args.line _ _ (ap (I.Bind c.args.place c.args.value) c.in_ok-range.ensures))
    c.add.ensures
