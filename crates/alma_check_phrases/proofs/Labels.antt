-- The labels that are noted as an arm of CASE is judged.
use Rattle.std.proofs.Common.{◌≡◌, ℕ, ◌+◌, ◌<◌, List, [], ◌∷◌, ◌++◌, Option, None, Some, Vec, Global, length, get_or, drop, take, suc, refl}
use Rattle.std.proofs.Common.{sym, subst, ap, ◌∙◌}
use Rattle.std.specs.Prelude.{is_some, unwrap_or, option_to_list, Bool, true, false, Result, Ok, Err, IsOk, OnOk}
use Rattle.alma_rules.specs.Numbered as tree
use Rattle.alma_rules.specs.Scene.{Scene}
use Rattle.alma_rules.specs.Judgement.{and_then, with}
use Rattle.alma_rules.specs.Nodes as nodes
use Rattle.alma_rules.specs.Walk as walk
use Rattle.alma_rules.specs.Parts as parts
use Rattle.alma_check_rules.specs.declared.part.Span.{Span}
use Rattle.alma_check_rules.specs.Views.{spans_in, spans_view}
use Rattle.alma_rules.proofs.Onwards.{nothing_behind}
use Rattle.alma_rules.specs.Arms.{labels_judged}
use Rattle.alma_check_join_stmt.specs.Onward.{onward_spans}
use Rattle.alma_check_phrases.proofs.Begins.{begun}
use Rattle.alma_rules.proofs.Cases as cases
use Rattle.alma_tree.specs.declared.phrase.Arm as da
use Rattle.alma_tree.specs.declared.phrase.Label as dl
use Rattle.alma_rules.specs.View as view
use Rattle.alma_check_join_stmt.specs.Noted.{GrowsBy, trail_for_entries}

-- of the labels noted, those of an arm stay where none of them is Bad
pub settled : (old mid new : List parts.Span) (before : ℕ) (labels : Option (Vec Span Global)) → before ≡ length old
    → GrowsBy old (spans_in labels) mid
    → new ≡ trail_for_entries before (is_some labels) mid → new ≡ old ++ unwrap_or (spans_in labels) []
settled old mid new before None h g is = is ∙ ap (λ k. take k mid) h ∙ g ∙ sym (nothing_behind old)
settled old mid new before (Some ls) h g is = is ∙ g

pub spans_count : (xs : List Span) → length (spans_view xs) ≡ length xs
spans_count [] = refl
spans_count (x ∷ xs) = ap (λ n. suc n) (spans_count xs)

module _ (s : Scene) where
  -- the first label of an arm, with which the list begins, where the labels noted behind it are these
  pub labels_begin : (n : ℕ) (case : Option parts.Typing) (earlier new : List parts.Span) (l : tree.Label) (ls : tree.LabelTail)
      (xs : Option (List parts.Span)) → xs ≡ Some []
      → new ≡ earlier ++ option_to_list (walk.judge_label s n case earlier l).value
      → labels_judged s n case earlier l ls ≡ onward_spans xs
      (with nodes.cons_span (and_then (walk.judge_label s n case earlier l) (λ m. walk.judge_labels s m case new ls)))
  labels_begin n case earlier new l ls xs h e =
      cases.label_first s n case earlier new l ls e
      ∙ begun (λ (a b : List parts.Span). a ++ b) [] xs
      (with nodes.cons_span (and_then (walk.judge_label s n case earlier l) (λ m. walk.judge_labels s m case new ls))) (λ b. refl) h

  -- one more label
  pub labels_turn : (n i : ℕ) (case : Option parts.Typing) (earlier new : List parts.Span) (all : List dl.Label) (y : dl.Label)
      → i < length all → y ≡ get_or all i y
      → new ≡ earlier ++ option_to_list (walk.judge_label s n case earlier (view.view_label y)).value
      → walk.judge_labels s n case earlier (view.labels_of (drop i all))
      ≡ with nodes.cons_span (and_then (walk.judge_label s n case earlier (view.view_label y))
      (λ m. walk.judge_labels s m case new (view.labels_of (drop (i + 1) all))))
  labels_turn n i case earlier new all y h is e =
      cases.labels_next s n i case earlier all y h is
      ∙ cases.label_first s n case earlier new (view.view_label y) (view.labels_of (drop (i + 1) all)) e

  -- one more arm
  pub arms_turn : (n i : ℕ) (case : Option parts.Typing) (earlier new : List parts.Span) (all : List da.Arm) (y : da.Arm) → i < length all
      → y ≡ get_or all i y
      → new ≡ earlier ++ (walk.judge_arm s n case earlier (view.view_arm y)).spans
      → walk.judge_arm_tail s n case earlier (view.arms_of (drop i all))
      ≡ with nodes.joined_cases (and_then (walk.judge_arm s n case earlier (view.view_arm y)).arm
      (λ m. walk.judge_arm_tail s m case new (view.arms_of (drop (i + 1) all))))
  arms_turn n i case earlier new all y h is e = cases.arms_next s n i case earlier all y h is ∙ rw (sym e) refl

pub grown_begin : (old : List parts.Span) (xs : Option (List parts.Span)) → xs ≡ Some [] → GrowsBy old xs old
grown_begin old xs h = rw h (sym (nothing_behind old))

-- what is said of a value, where there is one
abbrev where_true : Type 0 → Bool → Type 0
where_true P true = P
where_true P false = Unit

pub of_ok : {X E : Type 0} (r : Result X E) (P : Type 0) → IsOk r → OnOk r P → P
of_ok (Ok x) P h p = p
of_ok (Err e) P h p = subst (λ (b : Bool). where_true P b) h tt
