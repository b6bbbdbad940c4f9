use Rattle.std.proofs.Common.{refl, arith}
use Rattle.std.proofs.lemmas.Result.{err_from_is_err_and}
use Rattle.alma_parse_cursor.proofs.Loops.{ended, broken}
use Rattle.alma_parse_cursor.proofs.Steps.{after, passed, then, no_memory}
use Rattle.alma_parse_cursor.proofs.Turns.{begun, grown, where_passed}
use Rattle.alma_parse.proofs.Items.{formals_listed}
use Rattle.alma_parse.proofs.LeftOut.{no_formal_tail, a_formal_tail}
use Rattle.alma_parse.proofs.entries.formal_list.Goals as goal

pub loop-after-init : goal.loop-after-init
loop-after-init c = rw c.new-more.ensures.items (begun formals_listed)

pub loop-after-preserved : goal.loop-after-preserved
loop-after-preserved c = rw c.in_ok-push.ensures.items
    (grown formals_listed c.loop-after.invariant (where_passed c.in-Some.ensures.passes a_formal_tail)
    (then (passed refl refl c.in-Some.ensures.passes) c.in_ok-next.ensures.read))

pub returns-in_err-next : goal.returns-in_err-next
returns-in_err-next c =
    let p = err_from_is_err_and c.from_residual.result c.from_residual.ensures.1 in
    record {
      read = rw (p.1, p.2) (broken c.loop-after.invariant (where_passed c.in-Some.ensures.passes a_formal_tail) (after
          (passed refl refl c.in-Some.ensures.passes) c.in_err-next.ensures.read));
    }

pub returns-in_err-push : goal.returns-in_err-push
returns-in_err-push c =
    let p = err_from_is_err_and c.from_residual-in_err-push.result c.from_residual-in_err-push.ensures.1 in
    record { read = rw (p.1, p.2) no_memory }

pub loop-after-smaller : goal.loop-after-smaller
loop-after-smaller c = omega (arith, c.in-Some.ensures.passes.shorter, c.in_ok-next.ensures.read.shorter)

pub returns : goal.returns
returns c = record { read = ended c.loop-after.invariant (no_formal_tail _ c.in_default.ensures.passes) }
