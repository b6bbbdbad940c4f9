use Rattle.std.proofs.Common.{refl}
use Rattle.std.proofs.lemmas.Result.{err_from_is_err_and}
use Rattle.alma_parse_cursor.proofs.Steps.{after, first, then, becoming, becoming_fails, closed_any}
use Rattle.alma_parse_cursor.proofs.Turns.{where_passed}
use Rattle.alma_parse.proofs.LeftOut.{a_params_inside, some_params}
use Rattle.alma_parse.proofs.entries.params_values.Goals as goal

pub returns-in-Some : goal.returns-in-Some
returns-in-Some c = record {
  read = becoming (where_passed c.in-Some.ensures.passes a_params_inside)
      (closed_any refl refl c.in-Some.ensures.passes);
}

pub returns-in_err-formals : goal.returns-in_err-formals
returns-in_err-formals c =
    let p = err_from_is_err_and c.from_residual.result c.from_residual.ensures.1 in
    record { read = rw (p.1, p.2) (becoming_fails (some_params _ c.in_default.ensures.passes) (first c.in_err-formals.ensures.read)) }

pub returns-in_err-at : goal.returns-in_err-at
returns-in_err-at c =
    let p = err_from_is_err_and c.from_residual-in_err-at.result c.from_residual-in_err-at.ensures.1 in
    record {
      read = rw (p.1, p.2) (becoming_fails (some_params _ c.in_default.ensures.passes) (after c.in_ok-formals.ensures.read
          (c.in_err-at.ensures.passes _)));
    }

pub returns : goal.returns
returns c = record {
  read = becoming (some_params _ c.in_default.ensures.passes) (then c.in_ok-formals.ensures.read
      (closed_any refl refl c.in_ok-at.ensures.passes));
}
