use Rattle.std.proofs.lemmas.Result.{err_from_is_err_and}
use Rattle.alma_parse_cursor.proofs.Steps.{first, counted, then}
use Rattle.alma_parse_cursor.proofs.Turns.{want}
use Rattle.alma_parse.proofs.types.named_type.Goals as goal

pub returns-in_err-name : goal.returns-in_err-name
returns-in_err-name c =
    let p = err_from_is_err_and c.from_residual.result c.from_residual.ensures.1 in
    record { read = rw (p.1, p.2) (λ d. first (c.in_err-name.ensures.read _)) }

pub returns-in_err-node : goal.returns-in_err-node
returns-in_err-node c =
    let p = err_from_is_err_and c.from_residual-in_err-node.result c.from_residual-in_err-node.ensures.1 in
    record { read = rw (p.1, p.2) (λ d. want c.in_err-node.ensures.counted) }

pub returns : goal.returns
returns c = record { read = λ d. then (c.in_ok-name.ensures.read _) (counted c.in_ok-node.ensures.counted) }
