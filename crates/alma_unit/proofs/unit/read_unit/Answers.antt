use Rattle.alma_unit.proofs.Units.{unit_fetched, unit_unfetched}
use Rattle.alma_unit.proofs.unit.read_unit.Goals as goal

pub judge-requires : goal.judge-requires
judge-requires g c = record { short = rw c.deref.ensures.value c.in-Ok.ensures.answer.1 }

pub returns-in-Ok-clause-answer : goal.returns-in-Ok-clause-answer
returns-in-Ok-clause-answer g c =
    let got = c.in-Ok.ensures.answer in
    unit_fetched _ _ _ _ c.in-Ok.source.items c.judge.result got.0 got.1 got.2 (rw c.deref.ensures.value at c.judge.ensures.answer)

pub returns-in-Err-clause-answer : goal.returns-in-Err-clause-answer
returns-in-Err-clause-answer g c = rw c.from.ensures (unit_unfetched _ _ _ _ c.in-Err.fault c.in-Err.ensures.answer)
