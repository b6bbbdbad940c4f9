use Rattle.std.proofs.Common.{refl}
use Rattle.alma_back.proofs.Texts.{texts_more, texts_split, texts_none}
use Rattle.alma_back.proofs.script.split_line.Goals as goal

pub returns-then-text-at-eq10-clause-texts : goal.returns-then-text-at-eq10-clause-texts
returns-then-text-at-eq10-clause-texts c =
    texts_split c.args.text.now c.loop-at.at _ c.loop-at-test.true refl c.if-text-at-eq10.true c.loop-at.invariant

pub loop-at-preserved : goal.loop-at-preserved
loop-at-preserved c = texts_more c.args.text.now c.loop-at.at _ c.loop-at-test.true refl c.if-text-at-eq10.false c.loop-at.invariant

pub returns-clause-texts : goal.returns-clause-texts
returns-clause-texts c = texts_none c.args.text.now c.loop-at.at c.loop-at-test.false c.loop-at.invariant
