use Rattle.std.proofs.Common.{sym, ◌∙◌}
use Rattle.alma_check_block.proofs.Opening.{routines_next, routines_end}
use Rattle.alma_check_block.proofs.open.declare_routines.Goals as goal

pub loop-decl-preserved : goal.loop-decl-preserved
loop-decl-preserved c =
    c.loop-decl.invariant
    ∙ routines_next c.loop-decl.reader _ c.loop-decl.next _ c.loop-decl.decl-index c.args.decls.now c.decl-item.result c.loop-decl-test.true
    c.decl-item.is c.in_ok-declare_routine.ensures
    c.in_ok-next.ensures

pub returns : goal.returns
returns c = sym (c.loop-decl.invariant ∙ routines_end c.loop-decl.reader c.loop-decl.next c.loop-decl.decl-index c.args.decls.now
    c.loop-decl-test.false)
