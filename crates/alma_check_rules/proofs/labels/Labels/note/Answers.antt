use Rattle.std.proofs.Common.{rules, ◌∷◌, [], w64, arith, length-append}
use Rattle.std.proofs.lemmas.Int.{to_z-of_z}
use Rattle.alma_check_rules.proofs.Covered.{covers_kept, covers_take_push, covers_drop_push}
use Rattle.alma_check_rules.proofs.labels.Labels.note.Goals as goal

pub invariant_of-self : goal.invariant_of-self
invariant_of-self c = record {
  before_rises = c.self.invariant.before_rises;
  arm_rises = c.note_end.ensures.rises;
  before_covers = c.self.invariant.before_covers;
  arm_covers = covers_kept _ _ _ c.note_end.ensures.keeps c.self.invariant.arm_covers;
  within = c.self.invariant.within;
}

pub invariant_of-self-in_err-push : goal.invariant_of-self-in_err-push
invariant_of-self-in_err-push c = rw c.in_err-push.ensures.items (record {
  before_rises = c.self.invariant.before_rises;
  arm_rises = c.note_end.ensures.rises;
  before_covers = c.self.invariant.before_covers;
  arm_covers = covers_kept _ _ _ c.note_end.ensures.keeps c.self.invariant.arm_covers;
  within = c.self.invariant.within;
})

pub invariant_of-self-2 : goal.invariant_of-self-2
invariant_of-self-2 c =
    let covered = rw (to_z-of_z w64 c.args.span.range.low (search rules), to_z-of_z w64 c.args.span.range.high (search rules))
    at c.in_ok-note_end.ensures.covers in
    rw c.in_ok-push.ensures.items (record {
      before_rises = c.self.invariant.before_rises;
      arm_rises = c.note_end.ensures.rises;
      before_covers = covers_take_push c.self.inside.before c.self.inside.settled c.self.inside.spans.items (c.args.span ∷ [])
          c.self.invariant.within c.self.invariant.before_covers;
      arm_covers = covers_drop_push c.note_end.new.ends c.self.inside.settled c.self.inside.spans.items (c.args.span ∷ [])
          (covers_kept _ _ _ c.note_end.ensures.keeps c.self.invariant.arm_covers) (covered, tt);
      within = rw (length-append c.self.inside.spans.items (c.args.span ∷ [])) (omega (arith, c.self.invariant.within));
    })
