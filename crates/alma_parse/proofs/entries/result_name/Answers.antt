use Rattle.std.proofs.Common.{refl}
use Rattle.std.proofs.lemmas.Result.{err_from_is_err_and}
use Rattle.alma_parse_cursor.proofs.Steps.{after, passed, then, becoming, becoming_fails, skipped}
use Rattle.alma_parse_cursor.proofs.Turns.{where_passed}
use Rattle.alma_parse.proofs.LeftOut.{no_result_part, a_result_part}
use Rattle.alma_parse.proofs.entries.result_name.Goals as goal

pub returns-in_err-name : goal.returns-in_err-name
returns-in_err-name c =
    let p = err_from_is_err_and c.from_residual.result c.from_residual.ensures.1 in
    record {
      read = rw (p.1, p.2) (λ d. becoming_fails (where_passed c.in-Some.ensures.passes a_result_part) (after
          (passed refl refl c.in-Some.ensures.passes) (c.in_err-name.ensures.read d)));
    }

pub returns-in_default : goal.returns-in_default
returns-in_default c = record { read = λ d. skipped (no_result_part _ c.in_default.ensures.passes) }

pub returns : goal.returns
returns c = record {
  read = λ d. becoming (where_passed c.in-Some.ensures.passes a_result_part) (then (passed refl refl c.in-Some.ensures.passes)
      (c.in_ok-name.ensures.read d));
}
