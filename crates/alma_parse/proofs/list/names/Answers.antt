use Rattle.std.proofs.lemmas.Result.{err_from_is_err_and}
use Rattle.alma_parse_cursor.proofs.Steps.{after, first, counted, then}
use Rattle.alma_parse_cursor.proofs.Turns.{want}
use Rattle.alma_parse.proofs.list.names.Goals as goal

pub returns-in_err-first : goal.returns-in_err-first
returns-in_err-first c =
    let p = err_from_is_err_and c.from_residual.result c.from_residual.ensures.1 in
    record { read = rw (p.1, p.2) (λ d. first (c.in_err-first.ensures.read d)) }

pub returns-in_err-more : goal.returns-in_err-more
returns-in_err-more c =
    let p = err_from_is_err_and c.from_residual-in_err-more.result c.from_residual-in_err-more.ensures.1 in
    record { read = rw (p.1, p.2) (λ d. after (c.in_ok-first.ensures.read d) (c.in_err-more.ensures.read d)) }

pub returns-in_err-node : goal.returns-in_err-node
returns-in_err-node c =
    let p = err_from_is_err_and c.from_residual-in_err-node.result c.from_residual-in_err-node.ensures.1 in
    record { read = rw (p.1, p.2) (λ d. want c.in_err-node.ensures.counted) }

pub returns : goal.returns
returns c = record {
  read = λ d. then (c.in_ok-first.ensures.read d)
      (then (c.in_ok-more.ensures.read d) (counted c.in_ok-node.ensures.counted));
}
