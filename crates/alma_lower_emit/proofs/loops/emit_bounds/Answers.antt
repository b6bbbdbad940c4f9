use Rattle.std.proofs.Common.{◌≡◌, ap}
use Rattle.std.proofs.Common.{rules, to_z, of_z, w64}
use Rattle.std.proofs.lemmas.Int.{to_z-of_z}
use Rattle.alma_code.specs.declared.instr.Instr.TheVariants as I
use Rattle.alma_lower_parts.proofs.Said.{codes_is}
use Rattle.alma_lower_emit.proofs.loops.emit_bounds.Goals as goal

pub returns : goal.returns
returns g c =
    let same : to_z w64 (of_z w64 c.args.by) ≡ c.args.by = to_z-of_z w64 c.args.by (search rules) in
    let begins = c.in_ok-counts.ensures.begins in
    record {
      counter = c.in_ok-counts.ensures.counter;
      limit = c.in_ok-counts.ensures.limit;
      constant = c.constant.ensures;
      puts = record {
        b = begins.b;
        passed = begins.passed;
        bounds = record {
          b = begins.puts.b;
          c = _;
          d = _;
          takes = begins.puts.takes;
          step_slot = begins.step_slot;
          codes = codes_is _ _ c.args.line _ _ (ap (I.Const c.in_ok-counts.counts.step) same) begins.puts.codes;
          from_put = c.in_ok-first.ensures.puts;
          first_slot = c.in_ok-first.ensures.slot;
          to_put = c.in_ok-emit_limit.ensures.puts;
        };
      };
    }
