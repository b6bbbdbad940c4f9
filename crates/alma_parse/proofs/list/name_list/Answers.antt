use Rattle.std.proofs.Common.{refl, arith}
use Rattle.std.proofs.lemmas.Result.{err_from_is_err_and}
use Rattle.alma_parse_cursor.proofs.Loops.{ended, broken}
use Rattle.alma_parse_cursor.proofs.Steps.{after, passed, then}
use Rattle.alma_parse_cursor.proofs.Turns.{begun, grown, where_passed}
use Rattle.alma_parse.proofs.TypeItems.{names_listed}
use Rattle.alma_parse.proofs.TypesLeftOut.{no_name_tail, a_name_tail}
use Rattle.alma_parse.proofs.list.name_list.Goals as goal

pub loop-after-init : goal.loop-after-init
loop-after-init c = λ d. rw c.new-more.ensures.items (begun names_listed)

pub loop-after-preserved : goal.loop-after-preserved
loop-after-preserved c = λ d. rw c.in_ok-push.ensures.items
    (grown names_listed (c.loop-after.invariant d) (where_passed c.in-Some.ensures.passes a_name_tail)
    (then (passed refl refl c.in-Some.ensures.passes) (c.in_ok-next.ensures.read d)))

pub returns-in_err-next : goal.returns-in_err-next
returns-in_err-next c =
    let p = err_from_is_err_and c.from_residual.result c.from_residual.ensures.1 in
    record {
      read = rw (p.1, p.2) (λ d. broken (c.loop-after.invariant d) (where_passed c.in-Some.ensures.passes a_name_tail)
          (after (passed refl refl c.in-Some.ensures.passes) (c.in_err-next.ensures.read d)));
    }

pub returns : goal.returns
returns c = record { read = λ d. ended (c.loop-after.invariant d) (no_name_tail _ c.in_default.ensures.passes) }

pub loop-after-smaller : goal.loop-after-smaller
loop-after-smaller c = omega (arith, c.in-Some.ensures.passes.shorter, (c.in_ok-next.ensures.read 0).shorter)
