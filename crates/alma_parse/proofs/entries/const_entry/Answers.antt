use Rattle.std.proofs.Common.{refl, arith}
use Rattle.std.proofs.lemmas.Result.{err_from_is_err_and}
use Rattle.alma_parse_cursor.proofs.Steps.{after, first, passed, then}
use Rattle.alma_parse.proofs.entries.const_entry.Goals as goal

pub returns-in_err-name-clause-read : goal.returns-in_err-name-clause-read
returns-in_err-name-clause-read c =
    let p = err_from_is_err_and c.from_residual.result c.from_residual.ensures.1 in
    rw (p.1, p.2) (first (c.in_err-name.ensures.read _))

pub returns-in_err-name-clause-shorter : goal.returns-in_err-name-clause-shorter
returns-in_err-name-clause-shorter c =
    let p = err_from_is_err_and c.from_residual.result c.from_residual.ensures.1 in
    rw p.1 tt

pub returns-in_err-at-clause-read : goal.returns-in_err-at-clause-read
returns-in_err-at-clause-read c =
    let p = err_from_is_err_and c.from_residual-in_err-at.result c.from_residual-in_err-at.ensures.1 in
    rw (p.1, p.2) (after (c.in_ok-name.ensures.read _) (first (c.in_err-at.ensures.passes _)))

pub returns-in_err-at-clause-shorter : goal.returns-in_err-at-clause-shorter
returns-in_err-at-clause-shorter c =
    let p = err_from_is_err_and c.from_residual-in_err-at.result c.from_residual-in_err-at.ensures.1 in
    rw p.1 tt

pub returns-in_err-value-clause-read : goal.returns-in_err-value-clause-read
returns-in_err-value-clause-read c =
    let p = err_from_is_err_and c.from_residual-in_err-value.result c.from_residual-in_err-value.ensures.1 in
    rw (p.1, p.2) (after (c.in_ok-name.ensures.read _)
    (after (passed refl refl c.in_ok-at.ensures.passes) (first c.in_err-value.ensures.read)))

pub returns-in_err-value-clause-shorter : goal.returns-in_err-value-clause-shorter
returns-in_err-value-clause-shorter c =
    let p = err_from_is_err_and c.from_residual-in_err-value.result c.from_residual-in_err-value.ensures.1 in
    rw p.1 tt

pub returns-in_err-at-2-clause-read : goal.returns-in_err-at-2-clause-read
returns-in_err-at-2-clause-read c =
    let p = err_from_is_err_and c.from_residual-in_err-at-2.result c.from_residual-in_err-at-2.ensures.1 in
    rw (p.1, p.2) (after (c.in_ok-name.ensures.read _)
    (after (passed refl refl c.in_ok-at.ensures.passes) (after (c.in_ok-value.ensures.read) (first
    (c.in_err-at-2.ensures.passes _)))))

pub returns-in_err-at-2-clause-shorter : goal.returns-in_err-at-2-clause-shorter
returns-in_err-at-2-clause-shorter c =
    let p = err_from_is_err_and c.from_residual-in_err-at-2.result c.from_residual-in_err-at-2.ensures.1 in
    rw p.1 tt

pub returns-clause-read : goal.returns-clause-read
returns-clause-read c = then (c.in_ok-name.ensures.read _)
    (then (passed refl refl c.in_ok-at.ensures.passes) (then (c.in_ok-value.ensures.read)
    (passed refl refl c.in_ok-at-2.ensures.passes)))

pub returns-clause-shorter : goal.returns-clause-shorter
returns-clause-shorter c = omega (
  arith,
  (c.in_ok-name.ensures.read 0).shorter,
  c.in_ok-at.ensures.passes.shorter,
  c.in_ok-value.ensures.read.shorter,
  c.in_ok-at-2.ensures.passes.shorter,
)
