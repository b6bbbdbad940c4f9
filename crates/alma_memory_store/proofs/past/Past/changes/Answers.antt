use Rattle.std.proofs.Common.{◌≡◌, ◌⊎◌, ℕ, [], true, ap, subst}
use Rattle.alma_code.specs.Carries.{differs}
use Rattle.alma_memory_store.specs.Carries.{carry_of_entries}
use Rattle.alma_memory_store.specs.Frames.{AreWhole}
use Rattle.alma_memory_store.specs.Past.{PlainPast, IsKept, IsReplaced}
use Rattle.alma_memory_store.proofs.Frames.{whole-frames}
use Rattle.alma_memory_store.proofs.Gains.{found-gain, gained-all}
use Rattle.alma_memory_store.proofs.Covers.{covers}
use Rattle.alma_memory_store.proofs.past.Past.changes.Goals as goal

pub returns : goal.returns
returns c =
    let v = c.args.self.now in
    let p = c.self.inside in
    let whole : AreWhole v.now = subst (λ (q : PlainPast). AreWhole q.now) c.self.view_is (whole-frames _ _) in
    let cover : (f s : ℕ) → differs v.before v.now f s ≡ true → IsReplaced v.old_regions f s ⊎ IsKept v.regions v.old_slots f s =
    subst (λ (q : PlainPast). (f s : ℕ) → differs q.before q.now f s ≡ true → IsReplaced q.old_regions f s
    ⊎ IsKept q.regions q.old_slots f s) c.self.view_is (λ f s d. covers p f s c.self.invariant d) in
    let none : carry_of_entries c.new-found.result.items ≡ [] = ap carry_of_entries c.new-found.ensures.items in
    let all = gained-all v.before v.now (IsKept v.regions v.old_slots) (IsReplaced v.old_regions) _ _ _ none c.in_ok-push_written.ensures
    c.in_ok-push_replaced.ensures cover in
    found-gain v.before v.now _ whole all.0 all.1
