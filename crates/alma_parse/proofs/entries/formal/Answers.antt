use Rattle.std.proofs.Common.{refl}
use Rattle.std.proofs.lemmas.Result.{err_from_is_err_and}
use Rattle.alma_parse_cursor.proofs.Steps.{after, first, passed, counted, then}
use Rattle.alma_parse_cursor.proofs.Turns.{want}
use Rattle.alma_parse.proofs.entries.formal.Goals as goal

pub returns-in_err-names : goal.returns-in_err-names
returns-in_err-names c =
    let p = err_from_is_err_and c.from_residual.result c.from_residual.ensures.1 in
    record { read = rw (p.1, p.2) (after (c.mode-mode.ensures.read _) (first (c.in_err-names.ensures.read _))) }

pub returns-in_err-at : goal.returns-in_err-at
returns-in_err-at c =
    let p = err_from_is_err_and c.from_residual-in_err-at.result c.from_residual-in_err-at.ensures.1 in
    record {
      read = rw (p.1, p.2) (after (c.mode-mode.ensures.read _)
          (after (c.in_ok-names.ensures.read _) (first (c.in_err-at.ensures.passes _))));
    }

pub returns-in_err-type_name : goal.returns-in_err-type_name
returns-in_err-type_name c =
    let p = err_from_is_err_and c.from_residual-in_err-type_name.result c.from_residual-in_err-type_name.ensures.1 in
    record {
      read = rw (p.1, p.2) (after (c.mode-mode.ensures.read _) (after (c.in_ok-names.ensures.read _) (after
          (passed refl refl c.in_ok-at.ensures.passes) (first (c.in_err-type_name.ensures.read _)))));
    }

pub returns-in_err-node : goal.returns-in_err-node
returns-in_err-node c =
    let p = err_from_is_err_and c.from_residual-in_err-node.result c.from_residual-in_err-node.ensures.1 in
    record { read = rw (p.1, p.2) (want c.in_err-node.ensures.counted) }

pub returns : goal.returns
returns c = record {
  read = then (c.mode-mode.ensures.read _) (then (c.in_ok-names.ensures.read _) (then (passed refl refl c.in_ok-at.ensures.passes)
      (then (c.in_ok-type_name.ensures.read _) (counted c.in_ok-node.ensures.counted))));
}
