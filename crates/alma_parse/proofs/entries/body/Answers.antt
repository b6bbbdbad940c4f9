use Rattle.std.proofs.Common.{refl}
use Rattle.std.proofs.lemmas.Result.{err_from_is_err_and}
use Rattle.alma_parse_cursor.proofs.Steps.{after, passed, then, becoming, becoming_fails, skipped}
use Rattle.alma_parse_cursor.proofs.Turns.{where_passed}
use Rattle.alma_parse.proofs.LeftOut.{no_body_part, a_body_part}
use Rattle.alma_parse.proofs.entries.body.Goals as goal

pub returns-in_err-value : goal.returns-in_err-value
returns-in_err-value c =
    let p = err_from_is_err_and c.from_residual.result c.from_residual.ensures.1 in
    record {
      read = rw (p.1, p.2) (becoming_fails (where_passed c.in-Some.ensures.passes a_body_part) (after
          (passed refl refl c.in-Some.ensures.passes) c.in_err-value.ensures.read));
    }

pub returns-in_default : goal.returns-in_default
returns-in_default c = record { read = skipped (no_body_part _ c.in_default.ensures.passes) }

pub returns : goal.returns
returns c = record {
  read = becoming (where_passed c.in-Some.ensures.passes a_body_part) (then
      (passed refl refl c.in-Some.ensures.passes) c.in_ok-value.ensures.read);
}
