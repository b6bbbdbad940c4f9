-- The labels that are left complete those that were put.
use Rattle.std.proofs.Common.{◌≡◌, ℕ, ◌+◌, List, [], drop}
use Rattle.alma_lower_work.specs.Front.{Front, front, Holes}
use Rattle.alma_lower_work.specs.Puts.{all_labels}
use Rattle.alma_lower_templates.specs.LineInstr.{LineInstr, own}
use Rattle.alma_lower_parts.proofs.label.put_labels.Given as goal

abbrev pub invariant-loop-i : goal.invariant-loop-i
invariant-loop-i l = l.labels.test ≡ l.labels.bound + 1 → (c : Front) (aim : ℕ → List LineInstr → List LineInstr)
    → Holes (front l.work) c aim (λ none at lo ls. own l.line (all_labels l.labels.value l.labels.bound at l.hit none (drop l.i l.ranges)))
    (λ ls. []) (λ ls. ls)
    → Holes (front l.fn.work) c aim (λ none at lo ls. own l.line (all_labels l.labels.value l.labels.bound at l.hit none l.ranges))
    (λ ls. []) (λ ls. ls)
