use Rattle.std.proofs.Common.{refl, sym}
use Rattle.std.proofs.lemmas.Result.{err_from_is_err_and}
use Rattle.alma_parse_cursor.proofs.Steps.{after, first, opened, then, becoming, becoming_fails}
use Rattle.alma_parse_cursor.proofs.Turns.{where_started, numbered_alike, spelled_alike, back_out}
use Rattle.alma_parse.proofs.Items.{params_spelled, params_numbered}
use Rattle.alma_parse.proofs.LeftOut.{a_params_part}
use Rattle.alma_parse.proofs.entries.params.Goals as goal

pub returns-in_err-at : goal.returns-in_err-at
returns-in_err-at c =
    let p = err_from_is_err_and c.from_residual.result c.from_residual.ensures.1 in
    record {
      read = rw (p.1, p.2) (becoming_fails (where_started (sym c.if-not-is_at.ensures.starts) a_params_part)
          (first c.in_err-at.ensures.opened));
    }

pub returns-in_err-formals : goal.returns-in_err-formals
returns-in_err-formals c =
    let p = err_from_is_err_and c.from_residual-in_err-formals.result c.from_residual-in_err-formals.ensures.1 in
    record {
      read = rw (p.1, p.2) (becoming_fails (where_started (sym c.if-not-is_at.ensures.starts) a_params_part) (after
          (opened refl c.in_ok-at.ensures.opened) c.in_err-formals.ensures.read));
    }

pub returns : goal.returns
returns c = record {
  read = spelled_alike (params_spelled c.in_ok-formals.formals) (numbered_alike (params_numbered c.in_ok-formals.formals)
      (becoming (where_started (sym c.if-not-is_at.ensures.starts) a_params_part) (back_out c.in_ok-at.ensures.opened (then
      (opened refl c.in_ok-at.ensures.opened) c.in_ok-formals.ensures.read))));
}
