use Rattle.std.proofs.lemmas.Result.{err_from_is_err_and}
use Rattle.alma_io.proofs.PartLemmas.{fails_after, parts_at}
use Rattle.alma_io.proofs.stream.write_parts.Goals as goal

pub returns-in_err-write_all : goal.returns-in_err-write_all
returns-in_err-write_all g c =
    let p = err_from_is_err_and c.from_residual.result c.from_residual.ensures.1 in
    rw p.1 (fails_after _ _ _ _ _ _ _ (parts_at c.args.parts.now c.loop-part.part-index _ c.loop-part-test.true) c.loop-part.invariant.out
    c.loop-part.invariant.quiet c.in_err-write_all.ensures.writes)
