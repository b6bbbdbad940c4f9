use Rattle.std.proofs.Common.{refl, arith}
use Rattle.std.proofs.lemmas.Result.{err_from_is_err_and}
use Rattle.alma_tree.proofs.Rows as rows
use Rattle.alma_tree.proofs.NumberRows as numbered
use Rattle.alma_parse_cursor.proofs.Loops.{ended, broken}
use Rattle.alma_parse_cursor.proofs.Steps.{after, first, passed, opened, closed, counted, then, no_memory}
use Rattle.alma_parse_cursor.proofs.Turns.{begun, grown, want}
use Rattle.alma_parse.proofs.Items.{decls_listed}
use Rattle.alma_parse.proofs.declarations.+declarations.Goals as goal

pub block-returns-in_err-decls : goal.block-returns-in_err-decls
block-returns-in_err-decls t c =
    let p = err_from_is_err_and c.from_residual.result c.from_residual.ensures.1 in
    record { read = rw (p.1, p.2) (first c.in_err-decls.ensures.read) }

pub block-returns-in_err-body : goal.block-returns-in_err-body
block-returns-in_err-body t c =
    let p = err_from_is_err_and c.from_residual-in_err-body.result c.from_residual-in_err-body.ensures.1 in
    record { read = rw (p.1, p.2) (after (c.in_ok-decls.ensures.read) (first c.in_err-body.ensures.read)) }

pub block-returns-in_err-node : goal.block-returns-in_err-node
block-returns-in_err-node t c =
    let p = err_from_is_err_and c.from_residual-in_err-node.result c.from_residual-in_err-node.ensures.1 in
    record { read = rw (p.1, p.2) (want c.in_err-node.ensures.counted) }

pub block-returns : goal.block-returns
block-returns t c = record {
  read = then (c.in_ok-decls.ensures.read)
      (then (c.in_ok-body.ensures.read) (counted c.in_ok-node.ensures.counted));
}

pub procedure-returns-in_err-at-clause-read : goal.procedure-returns-in_err-at-clause-read
procedure-returns-in_err-at-clause-read t c =
    let p = err_from_is_err_and c.from_residual.result c.from_residual.ensures.1 in
    rw (p.1, p.2) (first c.in_err-at.ensures.opened)

pub procedure-returns-in_err-at-clause-shorter : goal.procedure-returns-in_err-at-clause-shorter
procedure-returns-in_err-at-clause-shorter t c =
    let p = err_from_is_err_and c.from_residual.result c.from_residual.ensures.1 in
    rw p.1 tt

pub procedure-returns-in_err-name-clause-read : goal.procedure-returns-in_err-name-clause-read
procedure-returns-in_err-name-clause-read t c =
    let p = err_from_is_err_and c.from_residual-in_err-name.result c.from_residual-in_err-name.ensures.1 in
    rw (p.1, p.2) (after (opened refl c.in_ok-at.ensures.opened) (first (c.in_err-name.ensures.read _)))

pub procedure-returns-in_err-name-clause-shorter : goal.procedure-returns-in_err-name-clause-shorter
procedure-returns-in_err-name-clause-shorter t c =
    let p = err_from_is_err_and c.from_residual-in_err-name.result c.from_residual-in_err-name.ensures.1 in
    rw p.1 tt

pub procedure-returns-in_err-params-clause-read : goal.procedure-returns-in_err-params-clause-read
procedure-returns-in_err-params-clause-read t c =
    let p = err_from_is_err_and c.from_residual-in_err-params.result c.from_residual-in_err-params.ensures.1 in
    rw (p.1, p.2) (after (opened refl c.in_ok-at.ensures.opened) (after (c.in_ok-name.ensures.read _) (first c.in_err-params.ensures.read)))

pub procedure-returns-in_err-params-clause-shorter : goal.procedure-returns-in_err-params-clause-shorter
procedure-returns-in_err-params-clause-shorter t c =
    let p = err_from_is_err_and c.from_residual-in_err-params.result c.from_residual-in_err-params.ensures.1 in
    rw p.1 tt

pub procedure-returns-in_err-result-clause-read : goal.procedure-returns-in_err-result-clause-read
procedure-returns-in_err-result-clause-read t c =
    let p = err_from_is_err_and c.from_residual-in_err-result.result c.from_residual-in_err-result.ensures.1 in
    rw (p.1, p.2) (after (opened refl c.in_ok-at.ensures.opened)
    (after (c.in_ok-name.ensures.read _) (after (c.in_ok-params.ensures.read) (first
    (c.in_err-result.ensures.read _)))))

pub procedure-returns-in_err-result-clause-shorter : goal.procedure-returns-in_err-result-clause-shorter
procedure-returns-in_err-result-clause-shorter t c =
    let p = err_from_is_err_and c.from_residual-in_err-result.result c.from_residual-in_err-result.ensures.1 in
    rw p.1 tt

pub procedure-returns-in_err-at-2-clause-read : goal.procedure-returns-in_err-at-2-clause-read
procedure-returns-in_err-at-2-clause-read t c =
    let p = err_from_is_err_and c.from_residual-in_err-at-2.result c.from_residual-in_err-at-2.ensures.1 in
    rw (p.1, p.2) (after (opened refl c.in_ok-at.ensures.opened)
    (after (c.in_ok-name.ensures.read _) (after (c.in_ok-params.ensures.read) (after
    (c.in_ok-result.ensures.read _) (first (c.in_err-at-2.ensures.passes _))))))

pub procedure-returns-in_err-at-2-clause-shorter : goal.procedure-returns-in_err-at-2-clause-shorter
procedure-returns-in_err-at-2-clause-shorter t c =
    let p = err_from_is_err_and c.from_residual-in_err-at-2.result c.from_residual-in_err-at-2.ensures.1 in
    rw p.1 tt

pub procedure-returns-in_err-block-clause-read : goal.procedure-returns-in_err-block-clause-read
procedure-returns-in_err-block-clause-read t c =
    let p = err_from_is_err_and c.from_residual-in_err-block.result c.from_residual-in_err-block.ensures.1 in
    rw (p.1, p.2) (after (opened refl c.in_ok-at.ensures.opened)
    (after (c.in_ok-name.ensures.read _) (after (c.in_ok-params.ensures.read) (after
    (c.in_ok-result.ensures.read _) (after (passed refl refl c.in_ok-at-2.ensures.passes) (first c.in_err-block.ensures.read))))))

pub procedure-returns-in_err-block-clause-shorter : goal.procedure-returns-in_err-block-clause-shorter
procedure-returns-in_err-block-clause-shorter t c =
    let p = err_from_is_err_and c.from_residual-in_err-block.result c.from_residual-in_err-block.ensures.1 in
    rw p.1 tt

pub procedure-returns-in_err-at-3-clause-read : goal.procedure-returns-in_err-at-3-clause-read
procedure-returns-in_err-at-3-clause-read t c =
    let p = err_from_is_err_and c.from_residual-in_err-at-3.result c.from_residual-in_err-at-3.ensures.1 in
    rw (p.1, p.2) (after (opened refl c.in_ok-at.ensures.opened)
    (after (c.in_ok-name.ensures.read _) (after (c.in_ok-params.ensures.read) (after
    (c.in_ok-result.ensures.read _) (after (passed refl refl c.in_ok-at-2.ensures.passes) (after (c.in_ok-block.ensures.read) (first
    (c.in_err-at-3.ensures.passes _))))))))

pub procedure-returns-in_err-at-3-clause-shorter : goal.procedure-returns-in_err-at-3-clause-shorter
procedure-returns-in_err-at-3-clause-shorter t c =
    let p = err_from_is_err_and c.from_residual-in_err-at-3.result c.from_residual-in_err-at-3.ensures.1 in
    rw p.1 tt

pub procedure-returns-in_err-end_name-clause-read : goal.procedure-returns-in_err-end_name-clause-read
procedure-returns-in_err-end_name-clause-read t c =
    let p = err_from_is_err_and c.from_residual-in_err-end_name.result c.from_residual-in_err-end_name.ensures.1 in
    rw (p.1, p.2) (after (opened refl c.in_ok-at.ensures.opened)
    (after (c.in_ok-name.ensures.read _) (after (c.in_ok-params.ensures.read) (after
    (c.in_ok-result.ensures.read _) (after (passed refl refl c.in_ok-at-2.ensures.passes) (after (c.in_ok-block.ensures.read) (after
    (closed refl refl c.in_ok-at.ensures.opened c.in_ok-at-3.ensures.passes) (first (c.in_err-end_name.ensures.read _)))))))))

pub procedure-returns-in_err-end_name-clause-shorter : goal.procedure-returns-in_err-end_name-clause-shorter
procedure-returns-in_err-end_name-clause-shorter t c =
    let p = err_from_is_err_and c.from_residual-in_err-end_name.result c.from_residual-in_err-end_name.ensures.1 in
    rw p.1 tt

pub procedure-returns-in_err-at-4-clause-read : goal.procedure-returns-in_err-at-4-clause-read
procedure-returns-in_err-at-4-clause-read t c =
    let p = err_from_is_err_and c.from_residual-in_err-at-4.result c.from_residual-in_err-at-4.ensures.1 in
    rw (p.1, p.2) (after (opened refl c.in_ok-at.ensures.opened)
    (after (c.in_ok-name.ensures.read _) (after (c.in_ok-params.ensures.read) (after
    (c.in_ok-result.ensures.read _) (after (passed refl refl c.in_ok-at-2.ensures.passes) (after (c.in_ok-block.ensures.read) (after
    (closed refl refl c.in_ok-at.ensures.opened c.in_ok-at-3.ensures.passes) (after (c.in_ok-end_name.ensures.read _) (first
    (c.in_err-at-4.ensures.passes _))))))))))

pub procedure-returns-in_err-at-4-clause-shorter : goal.procedure-returns-in_err-at-4-clause-shorter
procedure-returns-in_err-at-4-clause-shorter t c =
    let p = err_from_is_err_and c.from_residual-in_err-at-4.result c.from_residual-in_err-at-4.ensures.1 in
    rw p.1 tt

pub procedure-returns-in_err-node-clause-read : goal.procedure-returns-in_err-node-clause-read
procedure-returns-in_err-node-clause-read t c =
    let p = err_from_is_err_and c.from_residual-in_err-node.result c.from_residual-in_err-node.ensures.1 in
    rw (p.1, p.2) (want c.in_err-node.ensures.counted)

pub procedure-returns-in_err-node-clause-shorter : goal.procedure-returns-in_err-node-clause-shorter
procedure-returns-in_err-node-clause-shorter t c =
    let p = err_from_is_err_and c.from_residual-in_err-node.result c.from_residual-in_err-node.ensures.1 in
    rw p.1 tt

pub procedure-returns-clause-read : goal.procedure-returns-clause-read
procedure-returns-clause-read t c = rw (
  rows.procedure_laid c.in_ok-node.node c.in_ok-name.name c.in_ok-params.params c.in_ok-result.result c.in_ok-block.block
      c.in_ok-end_name.end_name,
  numbered.procedure_laid c.in_ok-node.node c.in_ok-name.name c.in_ok-params.params c.in_ok-result.result c.in_ok-block.block
      c.in_ok-end_name.end_name,
) (then (opened refl c.in_ok-at.ensures.opened) (then (c.in_ok-name.ensures.read _) (then (c.in_ok-params.ensures.read) (then
    (c.in_ok-result.ensures.read _) (then (passed refl refl c.in_ok-at-2.ensures.passes) (then (c.in_ok-block.ensures.read) (then
    (closed refl refl c.in_ok-at.ensures.opened c.in_ok-at-3.ensures.passes) (then (c.in_ok-end_name.ensures.read _) (then
    (passed refl refl c.in_ok-at-4.ensures.passes) (counted c.in_ok-node.ensures.counted))))))))))

pub procedure-returns-clause-shorter : goal.procedure-returns-clause-shorter
procedure-returns-clause-shorter t c = omega (
  arith,
  c.in_ok-at.ensures.opened.passes.shorter,
  (c.in_ok-name.ensures.read 0).shorter,
  c.in_ok-params.ensures.read.shorter,
  (c.in_ok-result.ensures.read 0).shorter,
  c.in_ok-at-2.ensures.passes.shorter,
  c.in_ok-block.ensures.read.shorter,
  c.in_ok-at-3.ensures.passes.shorter,
  (c.in_ok-end_name.ensures.read 0).shorter,
  c.in_ok-at-4.ensures.passes.shorter,
  (counted {d = 0} c.in_ok-node.ensures.counted).shorter,
)

pub decl_list-loop-form-init : goal.decl_list-loop-form-init
decl_list-loop-form-init t c = rw c.new-more.ensures.items (begun decls_listed)

pub decl_list-loop-form-preserved : goal.decl_list-loop-form-preserved
decl_list-loop-form-preserved t c = rw c.in_ok-push.ensures.items
    (grown {xs = c.loop-form.more.items} decls_listed c.loop-form.invariant c.in-Some.ensures.becomes
    (c.in_ok-next.ensures.read))

pub decl_list-returns-in_err-next : goal.decl_list-returns-in_err-next
decl_list-returns-in_err-next t c =
    let p = err_from_is_err_and c.from_residual.result c.from_residual.ensures.1 in
    record { read = rw (p.1, p.2) (broken c.loop-form.invariant c.in-Some.ensures.becomes (c.in_err-next.ensures.read)) }

pub decl_list-returns-in_err-push : goal.decl_list-returns-in_err-push
decl_list-returns-in_err-push t c =
    let p = err_from_is_err_and c.from_residual-in_err-push.result c.from_residual-in_err-push.ensures.1 in
    record { read = rw (p.1, p.2) no_memory }

pub decl_list-loop-form-smaller : goal.decl_list-loop-form-smaller
decl_list-loop-form-smaller t c = omega (arith, c.in_ok-next.ensures.shorter)

pub decl_list-returns : goal.decl_list-returns
decl_list-returns t c = record { read = ended c.loop-form.invariant c.in_default.ensures.becomes }

pub block-decl_list-requires : goal.block-decl_list-requires
block-decl_list-requires t c = (omega arith, tt)

pub decl-procedure-requires : goal.decl-procedure-requires
decl-procedure-requires t c = (omega arith, tt)

pub procedure-block-requires : goal.procedure-block-requires
procedure-block-requires t c =
    let a = c.in_ok-at.ensures.opened.passes.shorter in
    let b = (c.in_ok-name.ensures.read 0).shorter in
    let f = c.in_ok-params.ensures.read.shorter in
    let g = (c.in_ok-result.ensures.read 0).shorter in
    let h = c.in_ok-at-2.ensures.passes.shorter in (omega arith, tt)
