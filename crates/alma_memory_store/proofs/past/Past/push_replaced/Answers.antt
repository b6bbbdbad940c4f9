use Rattle.std.proofs.Common.{◌≡◌, ℕ, List, ap, sym, subst, ◌∙◌, rules}
use Rattle.alma_memory_store.specs.declared.store.Region.{Region}
use Rattle.alma_memory_store.specs.Carries.{carry_of_entries}
use Rattle.alma_memory_store.specs.Past.{PlainPast, Gains, IsReplaced}
use Rattle.alma_memory_store.proofs.Gains.{gains-start, gains-step, gains-end}
use Rattle.alma_memory_store.proofs.Covers.{replaced-split, replaced-none}
use Rattle.alma_memory_store.proofs.past.Past.push_replaced.Goals as goal

pub loop-frame-init : goal.loop-frame-init
loop-frame-init c =
    let v = c.args.self.now in
    let found = carry_of_entries c.args.found.now.items in
    let all : c.into_iter-frame-iterator.result ≡ c.self.inside.old_regions.entries = search rules in
    let e : c.into_iter-frame-iterator.result ≡ v.old_regions = all ∙ ap (λ (q : PlainPast). q.old_regions) c.self.view_is in (
      tt,
      tt,
      subst (λ (es : List (ℕ × Region)). Gains v.before v.now (IsReplaced v.old_regions) (IsReplaced es) found found) (sym e)
          (gains-start v.before v.now (IsReplaced v.old_regions) found),
    )

pub loop-frame-preserved : goal.loop-frame-preserved
loop-frame-preserved c =
    let v = c.args.self.now in (
      tt,
      tt,
      gains-step v.before v.now (IsReplaced v.old_regions) (IsReplaced c.loop-frame.frame-iterator) (λ f s. f ≡ c.in-Some.frame.now)
          (IsReplaced c.next.new.self) _ _ _
          c.loop-frame.invariant.2 c.in_ok-push_frame.ensures
          (replaced-split c.loop-frame.frame-iterator _ c.next.new.self c.in-Some.ensures.steps),
    )

pub returns : goal.returns
returns c =
    let v = c.args.self.now in
    gains-end v.before v.now (IsReplaced v.old_regions) (IsReplaced c.loop-frame.frame-iterator) _ _ c.loop-frame.invariant.2
    (replaced-none c.loop-frame.frame-iterator c.in-None.ensures.steps.0)
