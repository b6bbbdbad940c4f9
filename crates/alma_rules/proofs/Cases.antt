-- What the walk says of CASE, as the code meets it.
use Rattle.std.proofs.Common.{◌≡◌, ℕ, ◌+◌, ◌<◌, ◌≤◌, List, [], ◌++◌, Option, None, Some, length, get_or, drop, Result, refl, sym, ap, ◌∙◌}
use Rattle.std.specs.Prelude.{option_to_list, unwrap_or}
use Rattle.std.proofs.lemmas.List.{drop_all}
use Rattle.alma_tree.specs.declared.phrase.Arm as da
use Rattle.alma_tree.specs.declared.phrase.Label as dl
use Rattle.alma_tree.specs.declared.phrase.Expr as de
use Rattle.alma_ir.specs.Tree as ir
use Rattle.alma_rules.specs.declared.error.Stop.{Stop}
use Rattle.alma_rules.specs.Numbered as tree
use Rattle.alma_rules.specs.View as view
use Rattle.alma_rules.specs.Judgement.{Judgement, fine, of_value, both, and_then, with}
use Rattle.alma_rules.specs.Answers.{Stops, Answers}
use Rattle.alma_rules.specs.Scene.{Scene, in_constant}
use Rattle.alma_rules.specs.Parts as parts
use Rattle.alma_rules.specs.Nodes as nodes
use Rattle.alma_rules.specs.Walk as walk
use Rattle.alma_rules.specs.Onward.{onward}
use Rattle.alma_rules.specs.Arms.{arms_judged, labels_judged}
use Rattle.alma_rules.proofs.Rows as rows
use Rattle.alma_rules.proofs.Judging.{stops_more}
use Rattle.alma_rules.proofs.Onwards.{onward_first}
use Rattle.alma_rules.proofs.Exprs.{next_of}

pub cases_last : (xs : ir.CaseArms) → parts.append_cases xs ir.no_cases ≡ xs
cases_last ir.no_cases = refl
cases_last (ir.more_cases ls b xs) = ap (ir.more_cases ls b) (cases_last xs)

module _ (s : Scene) where
  -- ---- the whole
  case_at : (n k : ℕ) (e : tree.Expr) (first : tree.Arm) (rest : tree.ArmTail) (other : tree.Else)
      → walk.judge_stmt s n (tree.case_stmt k e first rest other)
      ≡ nodes.one (nodes.case_at s k (walk.judge_expr s n e)
      (arms_judged s (walk.judge_expr s n e).next (walk.judge_expr s n e).value first rest)
      (walk.judge_case_else s (arms_judged s (walk.judge_expr s n e).next (walk.judge_expr s n e).value first rest).next other))
  unfolding walk.judge_stmts
  case_at n k e first rest other = refl

  pub case_stops : (n k : ℕ) (e : tree.Expr) (first : tree.Arm) (rest : tree.ArmTail) (other : tree.Else) (x : Stop)
      → Stops (walk.judge_expr s n e).faults x
      → Stops (walk.judge_stmt s n (tree.case_stmt k e first rest other)).faults x
  case_stops n k e first rest other x h = rw (case_at n k e first rest other)
      (stops_more _ _ x (stops_more (walk.judge_expr s n e).faults _ x h))

  case_arms_by : (k m : ℕ) (other : tree.Else) (v : Option parts.Typing) (c : Judgement parts.Typing)
      (arms : ℕ → Option parts.Typing → Judgement ir.CaseArms) (x : Stop) → c ≡ of_value m v → Stops (arms m v).faults x
      → Stops (nodes.one (nodes.case_at s k c (arms c.next c.value) (walk.judge_case_else s (arms c.next c.value).next other))).faults x
  case_arms_by k m other v c arms x h t = rw h (stops_more _ _ x (stops_more (arms m v).faults _ x t))

  pub case_arms_stops : (n k : ℕ) (e : tree.Expr) (first : tree.Arm) (rest : tree.ArmTail) (other : tree.Else) (m : ℕ)
      (v : Option parts.Typing) (x : Stop) → walk.judge_expr s n e ≡ of_value m v
      → Stops (arms_judged s m v first rest).faults x → Stops (walk.judge_stmt s n (tree.case_stmt k e first rest other)).faults x
  case_arms_stops n k e first rest other m v x h t =
      rw (case_at n k e first rest other) (case_arms_by k m other v (walk.judge_expr s n e) (λ i c. arms_judged s i c first rest) x h t)

  case_by : {X : Type 0} (k m i u : ℕ) (other : tree.Else) (v : Option parts.Typing) (y : Option ir.CaseArms) (w : X → ir.Stmts)
      (r : Result (Option X) Stop) (c : Judgement parts.Typing) (arms : ℕ → Option parts.Typing → Judgement ir.CaseArms)
      → c ≡ of_value m v → arms m v ≡ of_value i y
      → Answers (nodes.one (nodes.case_at s k (of_value m v) (of_value i y) (walk.judge_case_else s i other))) w u r
      → Answers (nodes.one (nodes.case_at s k c (arms c.next c.value) (walk.judge_case_else s (arms c.next c.value).next other))) w u r
  case_by {X} k m i u other v y w r c arms h t a = rw h (by (arms m v) t)
    where
      by : (b : Judgement ir.CaseArms) → b ≡ of_value i y
          → Answers (nodes.one (nodes.case_at s k (of_value m v) b (walk.judge_case_else s b.next other))) w u r
      by b q = rw q a

  pub case_fine : {X : Type 0} (n k : ℕ) (e : tree.Expr) (first : tree.Arm) (rest : tree.ArmTail) (other : tree.Else) (m i u : ℕ)
      (v : Option parts.Typing) (y : Option ir.CaseArms) (w : X → ir.Stmts) (r : Result (Option X) Stop)
      → walk.judge_expr s n e ≡ of_value m v → arms_judged s m v first rest ≡ of_value i y
      → Answers (nodes.one (nodes.case_at s k (of_value m v) (of_value i y) (walk.judge_case_else s i other))) w u r
      → Answers (walk.judge_stmt s n (tree.case_stmt k e first rest other)) w u r
  case_fine {X} n k e first rest other m i u v y w r h t a =
      rw (case_at n k e first rest other) (case_by k m i u other v y w r (walk.judge_expr s n e) (λ i c. arms_judged s i c first rest) h t
      a)

  -- ---- arms in order
  pub arms_stops : (n : ℕ) (case : Option parts.Typing) (first : tree.Arm) (rest : tree.ArmTail) (x : Stop)
      → Stops (walk.judge_arm s n case [] first).arm.faults x → Stops (arms_judged s n case first rest).faults x
  arms_stops n case first rest x h = stops_more (walk.judge_arm s n case [] first).arm.faults _ x h

  arms_by : (a : Judgement ir.CaseArms) (m : ℕ) (v : Option ir.CaseArms) (g : ℕ → Judgement ir.CaseArms) → a ≡ of_value m v
      → with nodes.joined_cases (and_then a g) ≡ onward parts.append_cases v (g m)
  arms_by a m v g h = rw h (onward_first parts.append_cases nodes.joined_cases v m (g m) (λ x y. refl))

  pub arms_fine : (n : ℕ) (case : Option parts.Typing) (first : tree.Arm) (rest : tree.ArmTail) (m : ℕ) (v : Option ir.CaseArms)
      (spans : List parts.Span) → (walk.judge_arm s n case [] first).arm ≡ of_value m v
      → spans ≡ (walk.judge_arm s n case [] first).spans
      → arms_judged s n case first rest ≡ onward parts.append_cases v (walk.judge_arm_tail s m case spans rest)
  arms_fine n case first rest m v spans h is =
      arms_by (walk.judge_arm s n case [] first).arm m v (λ i. walk.judge_arm_tail s i case (walk.judge_arm s n case [] first).spans rest) h
      ∙ ap (λ l. onward parts.append_cases v (walk.judge_arm_tail s m case l rest)) (sym is)

  arm_tail_at : (n : ℕ) (case : Option parts.Typing) (earlier : List parts.Span) (y : tree.Arm) (rest : tree.ArmTail)
      → walk.judge_arm_tail s n case earlier (tree.more_arm y rest)
      ≡ with nodes.joined_cases (and_then (walk.judge_arm s n case earlier y).arm
      (λ m. walk.judge_arm_tail s m case (earlier ++ (walk.judge_arm s n case earlier y).spans) rest))
  unfolding walk.judge_stmts
  arm_tail_at n case earlier y rest = refl

  pub arms_next : (n i : ℕ) (case : Option parts.Typing) (earlier : List parts.Span) (all : List da.Arm) (y : da.Arm) → i < length all
      → y ≡ get_or all i y
      → walk.judge_arm_tail s n case earlier (view.arms_of (drop i all))
      ≡ with nodes.joined_cases (and_then (walk.judge_arm s n case earlier (view.view_arm y)).arm
      (λ m. walk.judge_arm_tail s m case (earlier ++ (walk.judge_arm s n case earlier (view.view_arm y)).spans)
      (view.arms_of (drop (i + 1) all))))
  arms_next n i case earlier all y h is = ap (λ xs. walk.judge_arm_tail s n case earlier (view.arms_of xs)) (next_of all i y h is)
      ∙ arm_tail_at n case earlier _ _

  pub arms_end : (n i : ℕ) (case : Option parts.Typing) (earlier : List parts.Span) (all : List da.Arm) → length all ≤ i
      → walk.judge_arm_tail s n case earlier (view.arms_of (drop i all)) ≡ fine n ir.no_cases
  unfolding walk.judge_stmts
  arms_end n i case earlier all h = ap (λ xs. walk.judge_arm_tail s n case earlier (view.arms_of xs)) (drop_all i all h)

  -- ---- an arm
  pub empty_arm_is : (n k : ℕ) (case : Option parts.Typing) (earlier : List parts.Span)
      → (walk.judge_arm s n case earlier (tree.empty_arm k)).arm ≡ fine n ir.no_cases
  unfolding walk.judge_stmts
  empty_arm_is n k case earlier = refl

  pub empty_spans : (n k : ℕ) (case : Option parts.Typing) (earlier : List parts.Span)
      → (walk.judge_arm s n case earlier (tree.empty_arm k)).spans ≡ []
  unfolding walk.judge_stmts
  empty_spans n k case earlier = refl

  arm_at : (n k : ℕ) (case : Option parts.Typing) (earlier : List parts.Span) (l : tree.Label) (ls : tree.LabelTail) (body : tree.Stmts)
      → walk.judge_arm s n case earlier (tree.arm k l ls body)
      ≡ nodes.arm_at (labels_judged s n case earlier l ls) (walk.judge_stmts s (labels_judged s n case earlier l ls).next body)
  unfolding walk.judge_stmts
  arm_at n k case earlier l ls body = refl

  pub arm_stops : (n k : ℕ) (case : Option parts.Typing) (earlier : List parts.Span) (l : tree.Label) (ls : tree.LabelTail)
      (body : tree.Stmts) (x : Stop) → Stops (labels_judged s n case earlier l ls).faults x
      → Stops (walk.judge_arm s n case earlier (tree.arm k l ls body)).arm.faults x
  arm_stops n k case earlier l ls body x h =
      rw (arm_at n k case earlier l ls body) (stops_more (labels_judged s n case earlier l ls).faults _ x h)

  pub arm_fine : (n k : ℕ) (case : Option parts.Typing) (earlier : List parts.Span) (l : tree.Label) (ls : tree.LabelTail)
      (body : tree.Stmts) (m : ℕ) (v : Option (List parts.Span)) → labels_judged s n case earlier l ls ≡ of_value m v
      → (walk.judge_arm s n case earlier (tree.arm k l ls body)).arm ≡ with nodes.arm_of (both (of_value m v) (walk.judge_stmts s m body))
  arm_fine n k case earlier l ls body m v h = ap (λ a. a.arm) (arm_at n k case earlier l ls body)
      ∙ by (labels_judged s n case earlier l ls) h
    where
      by : (j : Judgement (List parts.Span)) → j ≡ of_value m v
          → (nodes.arm_at j (walk.judge_stmts s j.next body)).arm ≡ with nodes.arm_of (both (of_value m v) (walk.judge_stmts s m body))
      by j q = rw q refl

  pub arm_spans : (n k : ℕ) (case : Option parts.Typing) (earlier : List parts.Span) (l : tree.Label) (ls : tree.LabelTail)
      (body : tree.Stmts) (m : ℕ) (v : Option (List parts.Span)) → labels_judged s n case earlier l ls ≡ of_value m v
      → (walk.judge_arm s n case earlier (tree.arm k l ls body)).spans ≡ unwrap_or v []
  arm_spans n k case earlier l ls body m v h = ap (λ a. a.spans) (arm_at n k case earlier l ls body) ∙ ap (λ j. unwrap_or j.value []) h

  labels_at : (n : ℕ) (case : Option parts.Typing) (earlier : List parts.Span) (l : tree.Label) (ls : tree.LabelTail)
      → walk.judge_labels s n case earlier (tree.more_label l ls) ≡ labels_judged s n case earlier l ls
  unfolding walk.judge_stmts
  labels_at n case earlier l ls = refl

  -- a label, and those behind it
  pub label_first : (n : ℕ) (case : Option parts.Typing) (earlier new : List parts.Span) (l : tree.Label) (ls : tree.LabelTail)
      → new ≡ earlier ++ option_to_list (walk.judge_label s n case earlier l).value
      → labels_judged s n case earlier l ls ≡ with nodes.cons_span
      (and_then (walk.judge_label s n case earlier l) (λ m. walk.judge_labels s m case new ls))
  label_first n case earlier new l ls h = rw h refl

  pub labels_next : (n i : ℕ) (case : Option parts.Typing) (earlier : List parts.Span) (all : List dl.Label) (y : dl.Label) → i < length all
      → y ≡ get_or all i y
      → walk.judge_labels s n case earlier (view.labels_of (drop i all)) ≡ labels_judged s n case earlier (view.view_label y)
      (view.labels_of (drop (i + 1) all))
  labels_next n i case earlier all y h is = ap (λ xs. walk.judge_labels s n case earlier (view.labels_of xs)) (next_of all i y h is)
      ∙ labels_at n case earlier _ _

  pub labels_end : (n i : ℕ) (case : Option parts.Typing) (earlier : List parts.Span) (all : List dl.Label) → length all ≤ i
      → walk.judge_labels s n case earlier (view.labels_of (drop i all)) ≡ fine n []
  unfolding walk.judge_stmts
  labels_end n i case earlier all h = ap (λ xs. walk.judge_labels s n case earlier (view.labels_of xs)) (drop_all i all h)

  -- ---- a label
  label_at : (n k : ℕ) (case : Option parts.Typing) (earlier : List parts.Span) (low : tree.Expr) (high : tree.High)
      → walk.judge_label s n case earlier (tree.label k low high)
      ≡ nodes.label_at s case earlier k (walk.judge_expr (in_constant s) n low)
      (walk.judge_high (in_constant s) (walk.judge_expr (in_constant s) n low).next (walk.judge_expr (in_constant s) n low).value high)
  unfolding walk.judge_stmts
  label_at n k case earlier low high = refl

  high_one : (n : ℕ) (v : Option parts.Typing) → walk.judge_high s n v tree.no_high ≡ of_value n v
  unfolding walk.judge_stmts
  high_one n v = refl

  high_two : (n : ℕ) (v : Option parts.Typing) (e : tree.Expr) → walk.judge_high s n v (tree.high_expr e) ≡ walk.judge_expr s n e
  unfolding walk.judge_stmts
  high_two n v e = refl

module _ (s : Scene) where
  pub label_one : (n : ℕ) (case : Option parts.Typing) (earlier : List parts.Span) (t : dl.Label) → (dl.out-Label t).high ≡ None
      → walk.judge_label s n case earlier (view.view_label t)
      ≡ nodes.label_at s case earlier (dl.out-Label t).node (walk.judge_expr (in_constant s) n (view.view_expr (dl.out-Label t).low))
      (of_value (walk.judge_expr (in_constant s) n (view.view_expr (dl.out-Label t).low)).next
      (walk.judge_expr (in_constant s) n (view.view_expr (dl.out-Label t).low)).value)
  label_one n case earlier t h =
      ap (walk.judge_label s n case earlier) (rows.label_is t) ∙ label_at s n _ case earlier _ _
      ∙ ap (λ x. nodes.label_at s case earlier (dl.out-Label t).node
      (walk.judge_expr (in_constant s) n (view.view_expr (dl.out-Label t).low))
      (walk.judge_high (in_constant s) (walk.judge_expr (in_constant s) n (view.view_expr (dl.out-Label t).low)).next
      (walk.judge_expr (in_constant s) n (view.view_expr (dl.out-Label t).low)).value (view.high_of x))) h
      ∙ ap (nodes.label_at s case earlier (dl.out-Label t).node (walk.judge_expr (in_constant s) n (view.view_expr (dl.out-Label t).low)))
      (high_one (in_constant s) _ _)

  label_whole : (n : ℕ) (case : Option parts.Typing) (earlier : List parts.Span) (t : dl.Label) (e : de.Expr)
      → (dl.out-Label t).high ≡ Some e
      → walk.judge_label s n case earlier (view.view_label t)
      ≡ nodes.label_at s case earlier (dl.out-Label t).node (walk.judge_expr (in_constant s) n (view.view_expr (dl.out-Label t).low))
      (walk.judge_expr (in_constant s) (walk.judge_expr (in_constant s) n (view.view_expr (dl.out-Label t).low)).next (view.view_expr e))
  label_whole n case earlier t e h =
      ap (walk.judge_label s n case earlier) (rows.label_is t) ∙ label_at s n _ case earlier _ _
      ∙ ap (λ x. nodes.label_at s case earlier (dl.out-Label t).node
      (walk.judge_expr (in_constant s) n (view.view_expr (dl.out-Label t).low))
      (walk.judge_high (in_constant s) (walk.judge_expr (in_constant s) n (view.view_expr (dl.out-Label t).low)).next
      (walk.judge_expr (in_constant s) n (view.view_expr (dl.out-Label t).low)).value (view.high_of x))) h
      ∙ ap (nodes.label_at s case earlier (dl.out-Label t).node (walk.judge_expr (in_constant s) n (view.view_expr (dl.out-Label t).low)))
      (high_two (in_constant s) _ _ _)

  label_by : (k n m : ℕ) (case : Option parts.Typing) (earlier : List parts.Span) (e : tree.Expr) (j : Judgement parts.Typing)
      (v : Option parts.Typing) → j ≡ of_value m v
      → nodes.label_at s case earlier k j (walk.judge_expr (in_constant s) j.next e) ≡ nodes.label_at s case earlier k (of_value m v)
      (walk.judge_expr (in_constant s) m e)
  label_by k n m case earlier e j v h = rw h refl

  pub label_two_stops : (n : ℕ) (case : Option parts.Typing) (earlier : List parts.Span) (t : dl.Label) (e : de.Expr) (x : Stop)
      → (dl.out-Label t).high ≡ Some e
      → Stops (walk.judge_expr (in_constant s) n (view.view_expr (dl.out-Label t).low)).faults x
      → Stops (walk.judge_label s n case earlier (view.view_label t)).faults x
  label_two_stops n case earlier t e x is h =
      rw (label_whole n case earlier t e is) (stops_more _ _ x
      (stops_more (walk.judge_expr (in_constant s) n (view.view_expr (dl.out-Label t).low)).faults _ x h))

  pub label_two : (n : ℕ) (case : Option parts.Typing) (earlier : List parts.Span) (t : dl.Label) (e : de.Expr) (m : ℕ)
      (v : Option parts.Typing) → (dl.out-Label t).high ≡ Some e
      → walk.judge_expr (in_constant s) n (view.view_expr (dl.out-Label t).low) ≡ of_value m v
      → walk.judge_label s n case earlier (view.view_label t) ≡ nodes.label_at s case earlier (dl.out-Label t).node (of_value m v)
      (walk.judge_expr (in_constant s) m (view.view_expr e))
  label_two n case earlier t e m v is h =
      label_whole n case earlier t e is ∙ label_by (dl.out-Label t).node n m case earlier (view.view_expr e)
      (walk.judge_expr (in_constant s) n (view.view_expr (dl.out-Label t).low)) v h
