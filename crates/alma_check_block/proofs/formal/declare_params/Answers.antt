use Rattle.std.proofs.Common.{take, ap, ◌∙◌}
use Rattle.std.proofs.lemmas.List.{take_all}
use Rattle.alma_rules.specs.View as view
use Rattle.alma_rules.specs.Decls as rules
use Rattle.alma_check_block.specs.Shown.{told_frame}
use Rattle.alma_check_block.proofs.Texts.{name_at, name_is}
use Rattle.alma_check_block.proofs.Frames.{params_next}
use Rattle.alma_check_block.proofs.formal.declare_params.Goals as goal

pub loop-name-init : goal.loop-name-init
loop-name-init c f h = h

pub loop-name-preserved : goal.loop-name-preserved
loop-name-preserved c f h =
    c.in_ok-declare_param.ensures (rules.params_in f c.args.from c.args.mode c.args.shape
    (view.names_of (take c.loop-name.name-index c.args.names.now))) (c.loop-name.invariant f h)
    ∙ ap (λ g. told_frame g) (params_next c.args.from c.args.shape c.args.mode f c.args.names.now c.loop-name.name-index
    (name_at c.args.names.now c.loop-name.name-index) c.loop-name-test.true
    (name_is c.args.names.now c.loop-name.name-index c.loop-name-test.true))

pub returns : goal.returns
returns c f h =
    c.loop-name.invariant f h ∙ ap (λ xs. told_frame (rules.params_in f c.args.from c.args.mode c.args.shape (view.names_of xs)))
    (take_all c.loop-name.name-index c.args.names.now c.loop-name-test.false)
