-- The arms of a CASE, and the labels of an arm.
use Rattle.std.specs.Prelude.{ℕ, List, [], ◌++◌, Option, option_to_list}
use Rattle.alma_ir.specs.Tree as ir
use Rattle.alma_rules.specs.Numbered as tree
use Rattle.alma_rules.specs.Judgement.{Judgement, after, and_then, with}
use Rattle.alma_rules.specs.Scene.{Scene}
use Rattle.alma_rules.specs.Parts.{Typing, Span}
use Rattle.alma_rules.specs.Nodes.{cons_span, joined_cases}
use Rattle.alma_rules.specs.Walk.{judge_arm, judge_arm_tail, judge_label, judge_labels}

-- the arms behind a CASE value
abbrev pub arms_judged : Scene → ℕ → Option Typing → tree.Arm → tree.ArmTail → Judgement ir.CaseArms
arms_judged s n case first rest =
    after (judge_arm s n case [] first) (λ a. with joined_cases (and_then a.arm (λ m. judge_arm_tail s m case a.spans rest)))

-- the labels of an arm, behind those of the arms before it
abbrev pub labels_judged : Scene → ℕ → Option Typing → (earlier : List Span) → tree.Label → tree.LabelTail → Judgement (List Span)
labels_judged s n case earlier first rest =
    after (judge_label s n case earlier first)
    (λ x. with cons_span (and_then x (λ m. judge_labels s m case (earlier ++ option_to_list x.value) rest)))
