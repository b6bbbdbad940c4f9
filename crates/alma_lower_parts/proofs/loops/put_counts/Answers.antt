use Rattle.std.proofs.Common.{rules, ◌≡◌, ap, to_z, of_z, w64}
use Rattle.std.proofs.lemmas.Int.{to_z-of_z}
use Rattle.alma_code.specs.declared.instr.Instr.TheVariants as I
use Rattle.alma_lower_parts.proofs.Putting.{codes_is}
use Rattle.alma_lower_parts.proofs.loops.put_counts.Goals as goal

pub returns-clause-puts : goal.returns-clause-puts
returns-clause-puts c =
    let same : to_z w64 (of_z w64 c.args.by) ≡ c.args.by = to_z-of_z w64 c.args.by (search rules) in
    record {
      b = _;
      takes = c.in_ok-step.ensures.takes;
      codes =
          codes_is _ _ c.args.line _ _ (ap (I.Const c.in_ok-step.step) same) c.in_ok-put.ensures.codes;
    }
