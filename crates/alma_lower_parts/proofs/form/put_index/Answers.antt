use Rattle.std.proofs.Common.{ap}
use Rattle.alma_code.specs.declared.instr.Instr.TheVariants as I
use Rattle.alma_lower_parts.proofs.Putting.{codes_is}
use Rattle.alma_lower_parts.proofs.form.put_index.Goals as goal

pub returns-clause-puts : goal.returns-clause-puts
returns-clause-puts c = record {
  b = _;
  takes = c.in_ok-to.ensures.takes;
  codes = codes_is _ _ c.args.line _ _ (ap (I.Index c.in_ok-to.to c.args.from c.args.index) c.in_ok-range.ensures)
      c.in_ok-put.ensures.codes;
}
