use Rattle.std.proofs.lemmas.Result.{err_from_is_err_and}
use Rattle.alma_back.proofs.Plans.{refused_followed}
use Rattle.alma_back.proofs.serve.perform.Goals as goal

pub returns-in_err-object : goal.returns-in_err-object
returns-in_err-object g c =
    let p = err_from_is_err_and c.from_residual.result c.from_residual.ensures.1 in
    rw (c.in_err-object.ensures.refused, p.1, p.2) (refused_followed c.in_err-object.field-0.0 _ _ _)

pub returns : goal.returns
returns g c = rw c.in_ok-object.ensures.names c.serve.ensures
