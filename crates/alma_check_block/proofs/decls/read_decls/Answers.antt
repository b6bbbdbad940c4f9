use Rattle.std.proofs.Common.{take, ap, ◌∙◌, arith}
use Rattle.std.proofs.lemmas.List.{take_all}
use Rattle.alma_rules.specs.View as view
use Rattle.alma_rules.specs.Decls as rules
use Rattle.alma_check_block.specs.Shown.{told_frame}
use Rattle.alma_check_block.proofs.Frames.{none_counted, decls_next, counted_next}
use Rattle.alma_check_block.proofs.decls.read_decls.Goals as goal

pub loop-decl-init : goal.loop-decl-init
loop-decl-init c = record {
  number = omega (arith, none_counted);
  read = λ f h. h;
}

pub loop-decl-preserved : goal.loop-decl-preserved
loop-decl-preserved c = record {
  number = omega (
    arith,
    c.in_ok-next.ensures,
    c.loop-decl.invariant.number,
    counted_next c.args.decls.now c.loop-decl.decl-index c.decl-item.result c.loop-decl-test.true c.decl-item.is,
  );
  read = λ f h.
      c.in_ok-read_decl.ensures (rules.read_decls f c.args.first (view.decls_of (take c.loop-decl.decl-index c.args.decls.now)))
      (c.loop-decl.invariant.read f h)
      ∙ ap (λ n. told_frame (rules.read_decl
      (rules.read_decls f c.args.first (view.decls_of (take c.loop-decl.decl-index c.args.decls.now))) n
      (view.view_decl c.decl-item.result))) c.loop-decl.invariant.number
      ∙ ap (λ g. told_frame g) (decls_next f c.args.first c.args.decls.now c.loop-decl.decl-index c.decl-item.result c.loop-decl-test.true
      c.decl-item.is);
}

pub returns : goal.returns
returns c f h =
    c.loop-decl.invariant.read f h ∙ ap (λ xs. told_frame (rules.read_decls f c.args.first (view.decls_of xs)))
    (take_all c.loop-decl.decl-index c.args.decls.now c.loop-decl-test.false)
