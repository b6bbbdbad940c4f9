use Rattle.std.proofs.Common.{◌∙◌, ap, sym, refl, arith, map}
use Rattle.std.specs.Prelude.{slice_set}
use Rattle.alma_choice.specs.Emitted.{made, with_target, line_instr}
use Rattle.alma_choice.proofs.Aiming.{aimed_in, aimed_out, made_long}
use Rattle.alma_choice.proofs.emit.Emit.aim.Goals as goal

pub returns-then-at-len : goal.returns-then-at-len
returns-then-at-len c = record {
  aims = record {
    instrs = sym (aimed_out (made c.args.self.now) c.args.at c.args.target
        (omega (arith, made_long c.args.self.now, c.if-at-len.true, c.len.ensures)));
    kinds = refl;
    next = refl;
  };
}

pub returns : goal.returns
returns c =
    let d = c.index.result.now in
    let items = c.args.self.now.code.items in
    record {
      aims = record {
        instrs = ap (λ i. map line_instr (slice_set items c.args.at (i, d.1))) c.aimed_at.ensures
            ∙ ap (λ x. map line_instr (slice_set items c.args.at (with_target x.0 c.args.target, x.1))) c.index.ensures
            ∙ aimed_in items c.args.at c.args.target d (omega (arith, c.if-at-len.false, c.len.ensures));
        kinds = refl;
        next = refl;
      };
    }
