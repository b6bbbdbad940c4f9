use Rattle.std.proofs.Common.{sym}
use Rattle.std.proofs.lemmas.List.{append-nil}
use Rattle.alma_copy.specs.Numbers.{moves_of}
use Rattle.alma_join.proofs.Copies.{globals_more}
use Rattle.alma_join.proofs.part.add_globals.Goals as goal

pub loop-global-init : goal.loop-global-init
loop-global-init c = sym (append-nil _)

pub loop-global-preserved : goal.loop-global-preserved
loop-global-preserved c = globals_more
    (moves_of c.args.moves.now) _ _ _ _ _ c.global-item.result _ c.loop-global-test.true c.global-item.is c.loop-global.invariant
    c.in_ok-push.ensures.items c.in_ok-copy_global.ensures.copy
