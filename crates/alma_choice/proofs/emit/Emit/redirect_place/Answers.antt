use Rattle.std.proofs.Common.{ℕ, ◌-◌, ◌∙◌, ap, sym, refl, arith, map}
use Rattle.std.specs.Prelude.{slice_set}
use Rattle.alma_lower_templates.specs.Pieces.{aim_place}
use Rattle.alma_choice.specs.Emitted.{line_instr}
use Rattle.alma_choice.proofs.Aiming.{last_in, last_none}
use Rattle.alma_choice.proofs.emit.Emit.redirect_place.Goals as goal

pub returns-then-count-eq0 : goal.returns-then-count-eq0
returns-then-count-eq0 c = record {
  redirects = record {
    instrs = sym (last_none (aim_place c.args.to) c.args.self.now.code.items (omega (arith, c.if-count-eq0.true, c.len-count.ensures)));
    kinds = refl;
    next = refl;
  };
}

pub returns : goal.returns
returns c =
    let d = c.index.result.now in
    let items = c.args.self.now.code.items in
    let at : ℕ = c.len-count.result - 1 in
    record {
      redirects = record {
        instrs = ap (λ i. map line_instr (slice_set items at (i, d.1))) c.placed_to.ensures
            ∙ ap (λ x. map line_instr (slice_set items at (aim_place c.args.to x.0, x.1))) c.index.ensures
            ∙ last_in (aim_place c.args.to) items at d (omega (arith, c.if-count-eq0.false, c.len-count.ensures));
        kinds = refl;
        next = refl;
      };
    }
