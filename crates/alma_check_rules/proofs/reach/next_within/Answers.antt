use Rattle.std.proofs.Common.{rules, ◌≡◌, w64}
use Rattle.std.proofs.lemmas.Int.{to_z-of_z}
use Rattle.std.specs.Prelude.{nat_eq, false}
use Rattle.alma_check_rules.proofs.Starts.{none_behind, other_behind, first_behind, first_within}
use Rattle.alma_check_rules.proofs.reach.next_within.Goals as goal

pub returns-in-None : goal.returns-in-None
returns-in-None c = none_behind c.args.ends.now c.args.base _ c.args.low c.args.high (to_z-of_z w64 c.args.low (search rules))
    (λ q h. (c.range.ensures.in_range tt).5 c.in-None.ensures.steps.0 q (h, tt))

pub returns-then-start-base : goal.returns-then-start-base
returns-then-start-base c = let first = rw c.in-Some.ensures.steps at (c.range.ensures.in_range tt).1 in
    let least = rw c.in-Some.ensures.steps at (c.range.ensures.in_range tt).2 in
    let apart : nat_eq c.in-Some.start.now.0 c.args.base ≡ false = search rules in
    other_behind c.args.ends.now c.in-Some.start.now.0 c.args.base c.in-Some.start.now.1 _ c.args.low c.args.high
    (to_z-of_z w64 c.args.low (search rules)) apart first.0.0
    (λ q h s. least q (h, tt) s)

pub returns-then-end-high : goal.returns-then-end-high
returns-then-end-high c = let first = rw c.in-Some.ensures.steps at (c.range.ensures.in_range tt).1 in
    let least = rw c.in-Some.ensures.steps at (c.range.ensures.in_range tt).2 in
    let same : c.in-Some.start.now.0 ≡ c.args.base = search rules in
    first_behind c.args.ends.now c.in-Some.start.now.0 c.args.base c.in-Some.start.now.1 c.in-Some.end.now _ c.args.low c.args.high
    (to_z-of_z w64 c.args.low (search rules)) same first.0.0
    c.requires first.1 (search rules) (λ q h s. least q (h, tt) s)

pub returns-else-end-high : goal.returns-else-end-high
returns-else-end-high c = let first = rw c.in-Some.ensures.steps at (c.range.ensures.in_range tt).1 in
    let same : c.in-Some.start.now.0 ≡ c.args.base = search rules in
    rw (to_z-of_z w64 c.in-Some.start.now.1 (search rules))
    (first_within c.args.ends.now c.in-Some.start.now.0 c.args.base c.in-Some.start.now.1 c.in-Some.end.now _ c.args.low c.args.high
    (to_z-of_z w64 c.args.low (search rules)) same first.0.0 first.1 (search rules))
