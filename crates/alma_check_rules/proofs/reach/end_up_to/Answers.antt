use Rattle.std.proofs.Common.{rules, ◌≡◌, w64}
use Rattle.std.proofs.lemmas.Int.{to_z-of_z}
use Rattle.std.specs.Prelude.{nat_eq, false}
use Rattle.alma_check_rules.proofs.Starts.{last_covers, none_up_to, other_up_to, last_up_to}
use Rattle.alma_check_rules.proofs.reach.end_up_to.Goals as goal

pub returns-in-None : goal.returns-in-None
returns-in-None c = none_up_to c.args.ends.now c.args.base _ c.args.low (to_z-of_z w64 c.args.low (search rules))
    (λ q h. (c.range.ensures.in_range tt).5 c.in-None.ensures.steps.0 q (tt, h))

pub returns-then-start-base : goal.returns-then-start-base
returns-then-start-base c = let last = (c.range.ensures.in_range tt).3 _ _ c.in-Some.ensures.steps in
    let most = (c.range.ensures.in_range tt).4 _ _ c.in-Some.ensures.steps in
    rw (to_z-of_z w64 c.in-Some.end.now (search rules)) (
      last_covers c.args.ends.now c.in-Some.start.now.0 c.args.base c.in-Some.start.now.1 c.in-Some.end.now _ c.args.low
          (to_z-of_z w64 c.args.low (search rules)) c.if-start-base.true last.0.1 last.1,
      last_up_to c.args.ends.now c.in-Some.start.now.0 c.args.base c.in-Some.start.now.1 c.in-Some.end.now _ c.args.low
          (to_z-of_z w64 c.args.low (search rules)) c.if-start-base.true c.requires last.1
          (λ q h s. most q (tt, h) s),
    )

pub returns-else-start-base : goal.returns-else-start-base
returns-else-start-base c = let last = (c.range.ensures.in_range tt).3 _ _ c.in-Some.ensures.steps in
    let most = (c.range.ensures.in_range tt).4 _ _ c.in-Some.ensures.steps in
    let apart : nat_eq c.in-Some.start.now.0 c.args.base ≡ false = search rules in
    other_up_to c.args.ends.now c.in-Some.start.now.0 c.args.base c.in-Some.start.now.1 _ c.args.low
    (to_z-of_z w64 c.args.low (search rules)) apart last.0.1
    (λ q h s. most q (tt, h) s)
