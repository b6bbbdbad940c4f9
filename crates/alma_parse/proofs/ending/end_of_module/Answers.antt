use Rattle.std.proofs.Common.{refl}
use Rattle.std.proofs.lemmas.Result.{err_from_is_err_and}
use Rattle.alma_parse_cursor.proofs.Steps.{after, first, passed, counted, then}
use Rattle.alma_parse.proofs.Endings.{ends_there, memory_ends, ends_behind}
use Rattle.alma_parse.proofs.ending.end_of_module.Goals as goal

pub returns-in_err-end_name : goal.returns-in_err-end_name
returns-in_err-end_name c =
    let p = err_from_is_err_and c.from_residual.result c.from_residual.ensures.1 in
    record { read = rw (p.1, p.2) (ends_there (first (c.in_err-end_name.ensures.read _))) }

pub returns-in_err-at : goal.returns-in_err-at
returns-in_err-at c =
    let p = err_from_is_err_and c.from_residual-in_err-at.result c.from_residual-in_err-at.ensures.1 in
    record { read = rw (p.1, p.2) (ends_there (after (c.in_ok-end_name.ensures.read _) (first (c.in_err-at.ensures.passes _)))) }

pub returns-in_err-node : goal.returns-in_err-node
returns-in_err-node c =
    let p = err_from_is_err_and c.from_residual-in_err-node.result c.from_residual-in_err-node.ensures.1 in
    record { read = rw (p.1, p.2) (memory_ends _ c.in_err-node.ensures.counted) }

pub returns-in_err-nothing_left : goal.returns-in_err-nothing_left
returns-in_err-nothing_left c =
    let p = err_from_is_err_and c.from_residual-in_err-nothing_left.result c.from_residual-in_err-nothing_left.ensures.1 in
    record {
      read = rw (p.1, p.2) (ends_behind _ (then (c.in_ok-end_name.ensures.read _) (then (passed refl refl c.in_ok-at.ensures.passes)
          (counted c.in_ok-node.ensures.counted))) c.in_err-nothing_left.ensures.left);
    }

pub returns : goal.returns
returns c = record {
  read = (
    then (c.in_ok-end_name.ensures.read _) (then (passed refl refl c.in_ok-at.ensures.passes) (counted c.in_ok-node.ensures.counted)),
    c.in_ok-nothing_left.ensures.left,
  );
}
