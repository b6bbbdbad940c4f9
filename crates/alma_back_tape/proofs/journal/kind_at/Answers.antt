use Rattle.std.proofs.Common.{sym, arith}
use Rattle.alma_back_tape.proofs.Trails.{kind-none, kind-above, kind-some}
use Rattle.alma_back_tape.proofs.journal.kind_at.Goals as goal

pub returns-then-height-eq0 : goal.returns-then-height-eq0
returns-then-height-eq0 c =
    let j = c.args.journal.now in
    sym (kind-none j.trail.items j.frames j.entries.items c.args.height (omega (arith, c.if-height-eq0.true)))

pub returns-then-height-len : goal.returns-then-height-len
returns-then-height-len c =
    let j = c.args.journal.now in
    sym (kind-above j.trail.items j.frames j.entries.items c.args.height (omega (arith, c.if-height-len.true, c.len.ensures, j.entries.ok)))

pub returns : goal.returns
returns c =
    let j = c.args.journal.now in
    sym (kind-some j.trail.items j.frames j.entries.items c.args.height c.index.result.now (omega (arith, c.if-height-eq0.false))
    (omega (arith, c.if-height-len.false, c.len.ensures, j.entries.ok)) c.index.ensures)
