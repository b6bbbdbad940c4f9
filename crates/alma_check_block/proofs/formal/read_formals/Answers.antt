use Rattle.std.proofs.Common.{take, ap, ◌∙◌}
use Rattle.std.proofs.lemmas.List.{take_all}
use Rattle.alma_rules.specs.View as view
use Rattle.alma_rules.specs.Decls as rules
use Rattle.alma_check_block.specs.Shown.{told_frame}
use Rattle.alma_check_block.proofs.Frames.{formals_next}
use Rattle.alma_check_block.proofs.formal.read_formals.Goals as goal

pub loop-formal-init : goal.loop-formal-init
loop-formal-init c f h = h

pub loop-formal-preserved : goal.loop-formal-preserved
loop-formal-preserved c f h =
    c.in_ok-read_formal.ensures (rules.read_formals f (view.more_formals_of (take c.loop-formal.formal-index c.args.formals.now)))
    (c.loop-formal.invariant f h)
    ∙ ap (λ g. told_frame g) (formals_next f c.args.formals.now c.loop-formal.formal-index c.formal-item.result c.loop-formal-test.true
    c.formal-item.is)

pub returns : goal.returns
returns c f h =
    c.loop-formal.invariant f h ∙ ap (λ xs. told_frame (rules.read_formals f (view.more_formals_of xs)))
    (take_all c.loop-formal.formal-index c.args.formals.now c.loop-formal-test.false)
