use Rattle.std.proofs.Common.{◌∙◌}
use Rattle.alma_ir.specs.View.{global_of}
use Rattle.alma_copy.proofs.Copies.{next, ended}
use Rattle.alma_listing.proofs.Built.{global_stays}
use Rattle.alma_listing.proofs.program.copy_globals.Goals as goal

pub loop-global-preserved : goal.loop-global-preserved
loop-global-preserved c =
    next global_of global_of c.args.globals.now c.loop-global.global-index c.global-item.result _ _ _ c.loop-global-test.true
    c.global-item.is
    c.loop-global.invariant
    (c.in_ok-copy_global.ensures.copy ∙ global_stays c.same_numbers.result c.same_numbers.ensures.global (global_of c.global-item.result))
    c.in_ok-push.ensures.items

pub returns : goal.returns
returns c = ended global_of global_of c.args.globals.now c.loop-global.global-index _ c.loop-global-test.false c.loop-global.invariant
