use Rattle.std.proofs.Common.{sym, ◌∙◌}
use Rattle.alma_check_block.proofs.Headings.{formals_begin, formals_next, formals_bad, formals_end, formal_at, formal_is}
use Rattle.alma_check_block.proofs.heading.all_formals.Goals as goal

pub loop-formal-init : goal.loop-formal-init
loop-formal-init c = rw c.new-all.ensures.items (formals_begin c.args.formals.now)

pub returns-in-None : goal.returns-in-None
returns-in-None c =
    sym (c.loop-formal.invariant ∙ formals_bad _ c.loop-formal.formal-index c.args.formals.now
    (formal_at c.args.formals.now c.loop-formal.formal-index) c.loop-formal-test.true
    (formal_is c.args.formals.now c.loop-formal.formal-index c.loop-formal-test.true) c.in-None.is)

pub loop-formal-preserved : goal.loop-formal-preserved
loop-formal-preserved c =
    c.loop-formal.invariant
    ∙ formals_next c.loop-formal.all.items c.push.new.self.items c.loop-formal.formal-index c.args.formals.now
    (formal_at c.args.formals.now c.loop-formal.formal-index) c.in-Some.formal
    c.loop-formal-test.true (formal_is c.args.formals.now c.loop-formal.formal-index c.loop-formal-test.true) c.in-Some.is
    c.in_ok-push-in-Some.ensures.items

pub returns : goal.returns
returns c = sym (c.loop-formal.invariant
    ∙ formals_end c.loop-formal.all.items c.loop-formal.formal-index c.args.formals.now c.loop-formal-test.false)
