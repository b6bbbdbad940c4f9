use Rattle.std.proofs.Common.{◌≡◌, ℕ, List, ap, sym, subst, ◌∙◌, rules}
use Rattle.alma_memory_store.specs.declared.store.Slot.{Slot}
use Rattle.alma_memory_store.specs.Carries.{carry_of_entries}
use Rattle.alma_memory_store.specs.Past.{PlainPast, Gains, IsAt, IsKept}
use Rattle.alma_memory_store.proofs.Gains.{gains-start, gains-step, gains-end}
use Rattle.alma_memory_store.proofs.Covers.{kept-split, kept-none}
use Rattle.alma_memory_store.proofs.past.Past.push_written.Goals as goal

pub loop-at-init : goal.loop-at-init
loop-at-init c =
    let v = c.args.self.now in
    let found = carry_of_entries c.args.found.now.items in
    let all : c.into_iter-at-iterator.result ≡ c.self.inside.old_slots.entries = search rules in
    let e : c.into_iter-at-iterator.result ≡ v.old_slots = all ∙ ap (λ (q : PlainPast). q.old_slots) c.self.view_is in (
      tt,
      tt,
      subst (λ (es : List (ℕ × Slot)). Gains v.before v.now (IsKept v.regions v.old_slots) (IsKept v.regions es) found found) (sym e)
          (gains-start v.before v.now (IsKept v.regions v.old_slots) found),
    )

pub loop-at-preserved : goal.loop-at-preserved
loop-at-preserved c =
    let v = c.args.self.now in (
      tt,
      tt,
      gains-step v.before v.now (IsKept v.regions v.old_slots) (IsKept v.regions c.loop-at.at-iterator) (IsAt v.regions c.in-Some.at.now)
          (IsKept v.regions c.next.new.self) _ _ _
          c.loop-at.invariant.2 c.in_ok-push_at.ensures
          (kept-split v.regions c.loop-at.at-iterator _ c.next.new.self c.in-Some.ensures.steps),
    )

pub returns : goal.returns
returns c =
    let v = c.args.self.now in
    gains-end v.before v.now (IsKept v.regions v.old_slots) (IsKept v.regions c.loop-at.at-iterator) _ _ c.loop-at.invariant.2
    (kept-none v.regions c.loop-at.at-iterator c.in-None.ensures.steps.0)
