use Rattle.std.proofs.Common.{rules, ◌≡◌, ap, to_z, of_z, w64}
use Rattle.std.proofs.lemmas.Int.{to_z-of_z}
use Rattle.alma_code.specs.declared.instr.Instr.TheVariants as I
use Rattle.alma_lower_parts.proofs.Said.{codes_is}
use Rattle.alma_lower_parts.proofs.pass.begin_loop.Goals as goal

pub returns-clause-begins : goal.returns-clause-begins
returns-clause-begins c =
    let same : to_z w64 (of_z w64 c.args.by) ≡ c.args.by = to_z-of_z w64 c.args.by (search rules) in
    let puts = c.in_ok-counts.ensures.puts in
    record {
      b = _;
      passed = c.in_ok-pass_desig.ensures;
      step_slot = c.in_ok-counts.ensures.step;
      puts = record {
        b = puts.b;
        takes = puts.takes;
        codes =
            codes_is _ _ c.args.line _ _ (ap (I.Const c.in_ok-counts.counts.step) same) puts.codes;
      };
    }
