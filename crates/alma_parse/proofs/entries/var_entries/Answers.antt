use Rattle.std.proofs.Common.{arith, sym}
use Rattle.std.proofs.lemmas.Result.{err_from_is_err_and}
use Rattle.alma_parse_cursor.proofs.Loops.{ended, broken}
use Rattle.alma_parse_cursor.proofs.Steps.{no_memory}
use Rattle.alma_parse_cursor.proofs.Turns.{begun, grown, where_started}
use Rattle.alma_parse.proofs.Items.{vars_listed}
use Rattle.alma_parse.proofs.LeftOut.{no_var_tail, a_var_tail}
use Rattle.alma_parse.proofs.entries.var_entries.Goals as goal

pub loop-alloc-init : goal.loop-alloc-init
loop-alloc-init c = rw c.new-more.ensures.items (begun vars_listed)

pub loop-alloc-preserved : goal.loop-alloc-preserved
loop-alloc-preserved c = rw c.in_ok-push.ensures.items
    (grown vars_listed c.loop-alloc.invariant (where_started (sym c.loop-alloc-test.ensures.starts) a_var_tail)
    (c.in_ok-next.ensures.read))

pub returns-in_err-next : goal.returns-in_err-next
returns-in_err-next c =
    let p = err_from_is_err_and c.from_residual.result c.from_residual.ensures.1 in
    record {
      read = rw (p.1, p.2) (broken c.loop-alloc.invariant (where_started (sym c.loop-alloc-test.ensures.starts) a_var_tail)
          (c.in_err-next.ensures.read));
    }

pub returns-in_err-push : goal.returns-in_err-push
returns-in_err-push c =
    let p = err_from_is_err_and c.from_residual-in_err-push.result c.from_residual-in_err-push.ensures.1 in
    record { read = rw (p.1, p.2) no_memory }

pub loop-alloc-smaller : goal.loop-alloc-smaller
loop-alloc-smaller c = omega (arith, c.in_ok-next.ensures.shorter)

pub returns : goal.returns
returns c = record { read = ended c.loop-alloc.invariant (no_var_tail _ (sym c.loop-alloc-test.ensures.starts)) }
