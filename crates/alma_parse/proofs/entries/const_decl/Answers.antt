use Rattle.std.proofs.Common.{refl, arith}
use Rattle.std.proofs.lemmas.Result.{err_from_is_err_and}
use Rattle.alma_parse_cursor.proofs.Steps.{after, first, passed, counted, then}
use Rattle.alma_parse_cursor.proofs.Turns.{want}
use Rattle.alma_parse.proofs.entries.const_decl.Goals as goal

pub returns-in_err-at-clause-read : goal.returns-in_err-at-clause-read
returns-in_err-at-clause-read c =
    let p = err_from_is_err_and c.from_residual.result c.from_residual.ensures.1 in
    rw (p.1, p.2) (first (c.in_err-at.ensures.passes _))

pub returns-in_err-at-clause-shorter : goal.returns-in_err-at-clause-shorter
returns-in_err-at-clause-shorter c =
    let p = err_from_is_err_and c.from_residual.result c.from_residual.ensures.1 in
    rw p.1 tt

pub returns-in_err-entries-clause-read : goal.returns-in_err-entries-clause-read
returns-in_err-entries-clause-read c =
    let p = err_from_is_err_and c.from_residual-in_err-entries.result c.from_residual-in_err-entries.ensures.1 in
    rw (p.1, p.2) (after (passed refl refl c.in_ok-at.ensures.passes) (first c.in_err-entries.ensures.read))

pub returns-in_err-entries-clause-shorter : goal.returns-in_err-entries-clause-shorter
returns-in_err-entries-clause-shorter c =
    let p = err_from_is_err_and c.from_residual-in_err-entries.result c.from_residual-in_err-entries.ensures.1 in
    rw p.1 tt

pub returns-in_err-node-clause-read : goal.returns-in_err-node-clause-read
returns-in_err-node-clause-read c =
    let p = err_from_is_err_and c.from_residual-in_err-node.result c.from_residual-in_err-node.ensures.1 in
    rw (p.1, p.2) (want c.in_err-node.ensures.counted)

pub returns-in_err-node-clause-shorter : goal.returns-in_err-node-clause-shorter
returns-in_err-node-clause-shorter c =
    let p = err_from_is_err_and c.from_residual-in_err-node.result c.from_residual-in_err-node.ensures.1 in
    rw p.1 tt

pub returns-clause-read : goal.returns-clause-read
returns-clause-read c = then (passed refl refl c.in_ok-at.ensures.passes)
    (then (c.in_ok-entries.ensures.read) (counted c.in_ok-node.ensures.counted))

pub returns-clause-shorter : goal.returns-clause-shorter
returns-clause-shorter c = omega (
  arith,
  c.in_ok-at.ensures.passes.shorter,
  c.in_ok-entries.ensures.read.shorter,
  (counted {d = 0} c.in_ok-node.ensures.counted).shorter,
)
