use Rattle.std.proofs.Common.{rules, ◌≡◌, Some, None, ℤ, w64, arith, subst, ◌∙◌}
use Rattle.std.proofs.lemmas.Int.{to_z-of_z}
use Rattle.alma_check_rules.proofs.Changes.{IsChanged, topped_drop, keeps_drop, topped_done, keeps_on}
use Rattle.alma_check_rules.proofs.reach.drop_within.Goals as goal

pub loop-start-smaller : goal.loop-start-smaller
loop-start-smaller c =
    let within = rw (to_z-of_z w64 c.args.low (search rules), to_z-of_z w64 c.args.high (search rules)) at c.in-Some.ensures in
    let was : c.remove.result ≡ Some within.end = c.remove.ensures.value ∙ rw (to_z-of_z w64 c.in-Some.start (search rules)) within.noted in
    let len = rw was at c.remove.ensures.len in
    omega (arith, len)

pub loop-start-preserved : goal.loop-start-preserved
loop-start-preserved c =
    let within = rw (to_z-of_z w64 c.args.low (search rules), to_z-of_z w64 c.args.high (search rules)) at c.in-Some.ensures in
    let changed : IsChanged c.loop-start.ends c.remove.new.self c.args.base c.in-Some.start None =
    subst (λ (z : ℤ). IsChanged c.loop-start.ends c.remove.new.self c.args.base z None) (to_z-of_z w64 c.in-Some.start (search rules))
    (record { now = λ q. c.remove.ensures.updates.0 q }) in
    let top = rw (to_z-of_z w64 c.args.low (search rules), to_z-of_z w64 c.args.high (search rules)) at c.loop-start.invariant.topped in
    record {
      topped = rw (to_z-of_z w64 c.args.low (search rules), to_z-of_z w64 c.args.high (search rules))
          (topped_drop _ _ c.args.base c.args.low c.args.high c.in-Some.start changed top within.behind);
      keeps = keeps_on _ _ _ c.loop-start.invariant.keeps
          (keeps_drop _ _ c.args.base c.args.low c.args.high c.in-Some.start changed top within);
    }

pub returns-clause-rises : goal.returns-clause-rises
returns-clause-rises c = let none : c.next_within.result ≡ None = search rules in
    let last = rw (none, to_z-of_z w64 c.args.low (search rules), to_z-of_z w64 c.args.high (search rules)) at c.next_within.ensures in
    let top = rw (to_z-of_z w64 c.args.low (search rules), to_z-of_z w64 c.args.high (search rules)) at c.loop-start.invariant.topped in
    topped_done _ c.args.base c.args.low c.args.high top last
