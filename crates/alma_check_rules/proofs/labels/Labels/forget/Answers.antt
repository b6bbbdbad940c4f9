use Rattle.std.proofs.Common.{rules, ◌≡◌, length, arith}
use Rattle.std.proofs.lemmas.List.{length-take}
use Rattle.alma_check_rules.proofs.Covered.{covers_fewer, covers_take, covers_nothing, covers_take_take, covers_drop_take, empty_rises}
use Rattle.alma_check_rules.proofs.labels.Labels.forget.Goals as goal

pub invariant_of-self : goal.invariant_of-self
invariant_of-self c =
    let long : length c.truncate.new.self.items ≡ c.len-self-inside.result = search rules in
    record {
      before_rises = c.self.invariant.before_rises;
      arm_rises = empty_rises c.clear.new.self c.clear.ensures.empty;
      before_covers = covers_take c.self.inside.before _ c.truncate.new.self.items (rw c.truncate.ensures.items
          (covers_fewer c.self.inside.before c.args.count c.self.inside.settled c.self.inside.spans.items c.if-count-self.true
          c.self.invariant.before_covers));
      arm_covers = covers_nothing c.clear.new.self _ c.truncate.new.self.items (omega (arith, long));
      within = omega (arith, long);
    }

pub invariant_of-self-else-count-self : goal.invariant_of-self-else-count-self
invariant_of-self-else-count-self c = record {
  before_rises = c.self.invariant.before_rises;
  arm_rises = c.self.invariant.arm_rises;
  before_covers = rw c.truncate.ensures.items
      (covers_take_take c.self.inside.before c.self.inside.settled c.args.count c.self.inside.spans.items c.self.invariant.before_covers);
  arm_covers = rw c.truncate.ensures.items
      (covers_drop_take c.self.inside.arm c.self.inside.settled c.args.count c.self.inside.spans.items c.self.invariant.arm_covers);
  within = rw (c.truncate.ensures.items, length-take c.args.count c.self.inside.spans.items)
      (omega (arith, c.self.invariant.within, c.if-count-self.false));
}
