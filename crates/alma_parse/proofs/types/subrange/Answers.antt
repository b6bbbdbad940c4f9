use Rattle.std.proofs.Common.{refl}
use Rattle.std.proofs.lemmas.Result.{err_from_is_err_and}
use Rattle.alma_parse_cursor.proofs.Steps.{after, first, passed, opened, closed, counted, then}
use Rattle.alma_parse_cursor.proofs.Turns.{want}
use Rattle.alma_parse.proofs.types.subrange.Goals as goal

pub returns-in_err-at : goal.returns-in_err-at
returns-in_err-at c =
    let p = err_from_is_err_and c.from_residual.result c.from_residual.ensures.1 in
    record { read = rw (p.1, p.2) (first c.in_err-at.ensures.opened) }

pub returns-in_err-low : goal.returns-in_err-low
returns-in_err-low c =
    let p = err_from_is_err_and c.from_residual-in_err-low.result c.from_residual-in_err-low.ensures.1 in
    record { read = rw (p.1, p.2) (after (opened refl c.in_ok-at.ensures.opened) (first c.in_err-low.ensures.read)) }

pub returns-in_err-at-2 : goal.returns-in_err-at-2
returns-in_err-at-2 c =
    let p = err_from_is_err_and c.from_residual-in_err-at-2.result c.from_residual-in_err-at-2.ensures.1 in
    record {
      read = rw (p.1, p.2) (after (opened refl c.in_ok-at.ensures.opened) (after (c.in_ok-low.ensures.read) (first
          (c.in_err-at-2.ensures.passes _))));
    }

pub returns-in_err-high : goal.returns-in_err-high
returns-in_err-high c =
    let p = err_from_is_err_and c.from_residual-in_err-high.result c.from_residual-in_err-high.ensures.1 in
    record {
      read = rw (p.1, p.2) (after (opened refl c.in_ok-at.ensures.opened) (after (c.in_ok-low.ensures.read) (after
          (passed refl refl c.in_ok-at-2.ensures.passes) (first c.in_err-high.ensures.read))));
    }

pub returns-in_err-at-3 : goal.returns-in_err-at-3
returns-in_err-at-3 c =
    let p = err_from_is_err_and c.from_residual-in_err-at-3.result c.from_residual-in_err-at-3.ensures.1 in
    record {
      read = rw (p.1, p.2) (after (opened refl c.in_ok-at.ensures.opened) (after (c.in_ok-low.ensures.read) (after
          (passed refl refl c.in_ok-at-2.ensures.passes) (after (c.in_ok-high.ensures.read) (first (c.in_err-at-3.ensures.passes _))))));
    }

pub returns-in_err-node : goal.returns-in_err-node
returns-in_err-node c =
    let p = err_from_is_err_and c.from_residual-in_err-node.result c.from_residual-in_err-node.ensures.1 in
    record { read = rw (p.1, p.2) (want c.in_err-node.ensures.counted) }

pub returns : goal.returns
returns c = record {
  read = then (opened refl c.in_ok-at.ensures.opened) (then (c.in_ok-low.ensures.read) (then
      (passed refl refl c.in_ok-at-2.ensures.passes) (then (c.in_ok-high.ensures.read) (then
      (closed refl refl c.in_ok-at.ensures.opened c.in_ok-at-3.ensures.passes) (counted c.in_ok-node.ensures.counted)))));
}
