use Rattle.std.proofs.Common.{refl, length}
use Rattle.std.proofs.lemmas.Result.{err_from_is_err_and}
use Rattle.alma_parse_cursor.specs.Parsing.{kinds_of}
use Rattle.alma_parse_cursor.proofs.Steps.{after, first, passed, opened, closed, then}
use Rattle.alma_parse.proofs.Modules.{as_many, module_found, ends_at, ends_behind}
use Rattle.alma_parse.proofs.whole.module.Goals as goal

pub returns-in_err-at : goal.returns-in_err-at
returns-in_err-at c =
    let p = err_from_is_err_and c.from_residual.result c.from_residual.ensures.1 in
    record { read = rw (p.1, p.2) (ends_at (kinds_of c.args.tokens.now) c.start.ensures.start (first c.in_err-at.ensures.opened)) }

pub returns-in_err-name : goal.returns-in_err-name
returns-in_err-name c =
    let p = err_from_is_err_and c.from_residual-in_err-name.result c.from_residual-in_err-name.ensures.1 in
    record {
      read = rw (p.1, p.2) (ends_at (kinds_of c.args.tokens.now) c.start.ensures.start (after (opened refl c.in_ok-at.ensures.opened) (first
          (c.in_err-name.ensures.read _))));
    }

pub returns-in_err-at-2 : goal.returns-in_err-at-2
returns-in_err-at-2 c =
    let p = err_from_is_err_and c.from_residual-in_err-at-2.result c.from_residual-in_err-at-2.ensures.1 in
    record {
      read = rw (p.1, p.2) (ends_at (kinds_of c.args.tokens.now) c.start.ensures.start (after (opened refl c.in_ok-at.ensures.opened) (after
          (c.in_ok-name.ensures.read _) (first (c.in_err-at-2.ensures.passes _)))));
    }

pub returns-in_err-block : goal.returns-in_err-block
returns-in_err-block c =
    let p = err_from_is_err_and c.from_residual-in_err-block.result c.from_residual-in_err-block.ensures.1 in
    record {
      read = rw (p.1, p.2) (ends_at (kinds_of c.args.tokens.now) c.start.ensures.start (after (opened refl c.in_ok-at.ensures.opened) (after
          (c.in_ok-name.ensures.read _) (after (passed refl refl c.in_ok-at-2.ensures.passes) (first c.in_err-block.ensures.read)))));
    }

pub returns-in_err-at-3 : goal.returns-in_err-at-3
returns-in_err-at-3 c =
    let p = err_from_is_err_and c.from_residual-in_err-at-3.result c.from_residual-in_err-at-3.ensures.1 in
    record {
      read = rw (p.1, p.2) (ends_at (kinds_of c.args.tokens.now) c.start.ensures.start (after (opened refl c.in_ok-at.ensures.opened) (after
          (c.in_ok-name.ensures.read _) (after (passed refl refl c.in_ok-at-2.ensures.passes) (after (c.in_ok-block.ensures.read) (first
          (c.in_err-at-3.ensures.passes _)))))));
    }

pub returns-in_err-end_name : goal.returns-in_err-end_name
returns-in_err-end_name c =
    let p = err_from_is_err_and c.from_residual-in_err-end_name.result c.from_residual-in_err-end_name.ensures.1 in
    record {
      read = rw (p.1, p.2) (ends_behind _ (kinds_of c.args.tokens.now) c.start.ensures.start (then (opened refl c.in_ok-at.ensures.opened)
          (then (c.in_ok-name.ensures.read _) (then (passed refl refl c.in_ok-at-2.ensures.passes) (then (c.in_ok-block.ensures.read)
          (closed refl refl c.in_ok-at.ensures.opened c.in_ok-at-3.ensures.passes))))) c.in_err-end_name.ensures.read);
    }

pub returns : goal.returns
returns c = record {
  read = module_found (kinds_of c.args.tokens.now)
      (record { node = c.in_ok-end_name.node; name = c.in_ok-name.name; block = c.in_ok-block.block; end_name = c.in_ok-end_name.end_name })
      (length c.args.tokens.now) c.start.ensures.start
      (then (opened refl c.in_ok-at.ensures.opened) (then (c.in_ok-name.ensures.read _) (then
      (passed refl refl c.in_ok-at-2.ensures.passes) (then (c.in_ok-block.ensures.read) (then
      (closed refl refl c.in_ok-at.ensures.opened c.in_ok-at-3.ensures.passes) c.in_ok-end_name.ensures.read.0)))))
      (as_many c.args.tokens.now) c.requires.few c.in_ok-end_name.ensures.read.1;
}
