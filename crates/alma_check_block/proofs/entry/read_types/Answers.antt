use Rattle.std.proofs.Common.{take, ap, ◌∙◌}
use Rattle.std.proofs.lemmas.List.{take_all}
use Rattle.alma_rules.specs.View as view
use Rattle.alma_rules.specs.Decls as rules
use Rattle.alma_check_block.specs.Shown.{told_frame}
use Rattle.alma_check_block.proofs.Frames.{types_next}
use Rattle.alma_check_block.proofs.entry.read_types.Goals as goal

pub loop-entry-init : goal.loop-entry-init
loop-entry-init c f h = h

pub loop-entry-preserved : goal.loop-entry-preserved
loop-entry-preserved c f h =
    c.in_ok-read_type_entry.ensures (rules.read_types f (view.types_of (take c.loop-entry.entry-index c.args.entries.now)))
    (c.loop-entry.invariant f h)
    ∙ ap (λ g. told_frame g) (types_next f c.args.entries.now c.loop-entry.entry-index c.entry-item.result c.loop-entry-test.true
    c.entry-item.is)

pub returns : goal.returns
returns c f h =
    c.loop-entry.invariant f h ∙ ap (λ xs. told_frame (rules.read_types f (view.types_of xs)))
    (take_all c.loop-entry.entry-index c.args.entries.now c.loop-entry-test.false)
