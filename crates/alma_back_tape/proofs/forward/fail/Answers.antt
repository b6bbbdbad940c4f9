use Rattle.std.proofs.Common.{◌≤◌, ap, length, arith}
use Rattle.alma_back_tape.specs.declared.change.Entry.{Entry}
use Rattle.alma_back_tape.proofs.Loops.{top_is, top_rises, fails}
use Rattle.alma_back_tape.proofs.forward.fail.Goals as goal

pub unwind_to-requires-clause-above : goal.unwind_to-requires-clause-above
unwind_to-requires-clause-above c =
    let es = c.args.journal.now.entries in
    let some : 1 ≤ length es.items = omega (arith, c.len-height.ensures, es.ok, c.if-height-eq0.false) in
    let top = top_is es.items c.len-height.result c.index-top.result.now (omega (arith, c.len-height.ensures, es.ok)) some
    c.index-top.ensures in
    (top_rises c.args.journal.now c.index-top.result.now.mark c.requires some (ap (λ (e : Entry). e.mark) top)).0

pub unwind_to-requires-clause-within : goal.unwind_to-requires-clause-within
unwind_to-requires-clause-within c =
    let es = c.args.journal.now.entries in
    let some : 1 ≤ length es.items = omega (arith, c.len-height.ensures, es.ok, c.if-height-eq0.false) in
    let top = top_is es.items c.len-height.result c.index-top.result.now (omega (arith, c.len-height.ensures, es.ok)) some
    c.index-top.ensures in
    (top_rises c.args.journal.now c.index-top.result.now.mark c.requires some (ap (λ (e : Entry). e.mark) top)).1

pub returns-clause-held : goal.returns-clause-held
returns-clause-held c h =
    let es = c.args.journal.now.entries in
    let some : 1 ≤ length es.items = omega (arith, c.len-height.ensures, es.ok, c.if-height-eq0.false) in
    let top = top_is es.items c.len-height.result c.index-top.result.now (omega (arith, c.len-height.ensures, es.ok)) some
    c.index-top.ensures in
    fails c.args.journal.now c.unwind_to.new.journal c.pop_top.new.journal c.index-top.result.now.mark c.requires some
    (ap (λ (e : Entry). e.mark) top)
    c.unwind_to.ensures.now c.unwind_to.ensures.trail c.unwind_to.ensures.entries c.pop_top.ensures.now c.pop_top.ensures.trail
    c.pop_top.ensures.entries
