-- What the walk says of statements, as the code meets them.
use Rattle.std.proofs.Common.{◌≡◌, ℕ, ◌+◌, ◌<◌, ◌≤◌, pos, List, [], ◌∷◌, ◌++◌, Option, None, Some, length, get_or, drop, Result, refl, sym}
use Rattle.std.proofs.Common.{subst, ap, ◌∙◌}
use Rattle.std.specs.Prelude.{option_map}
use Rattle.std.proofs.lemmas.List.{drop_all}
use Rattle.alma_tree.specs.declared.phrase.Stmts as ds
use Rattle.alma_tree.specs.declared.phrase.Stmt as dt
use Rattle.alma_tree.specs.declared.phrase.Elsif as df
use Rattle.alma_tree.specs.declared.phrase.Expr as de
use Rattle.alma_tree.specs.declared.phrase.Exprs as dx
use Rattle.alma_tree.specs.declared.phrase.Desig as dd
use Rattle.alma_ir.specs.Tree as ir
use Rattle.alma_rules.specs.declared.error.Stop.{Stop}
use Rattle.alma_rules.specs.Numbered as tree
use Rattle.alma_rules.specs.View as view
use Rattle.alma_rules.specs.Judgement.{BrokenRule, Judgement, fine, of_value, at_node, both, both_of, and_then, with, with_some}
use Rattle.alma_rules.specs.Answers.{Stops, Answers}
use Rattle.alma_rules.specs.Scene.{Scene, in_constant, inside_of}
use Rattle.alma_rules.specs.Parts as parts
use Rattle.alma_rules.specs.ExprRules as rules
use Rattle.alma_rules.specs.StmtRules as stmt_rules
use Rattle.alma_rules.specs.Nodes as nodes
use Rattle.alma_rules.specs.Walk as walk
use Rattle.alma_rules.specs.Appends.{append_arms, append_branches}
use Rattle.alma_rules.specs.Onward.{onward}
use Rattle.alma_rules.proofs.Rows as rows
use Rattle.alma_rules.proofs.Judging.{stops_more}
use Rattle.alma_rules.proofs.Onwards.{judged, first_fine, onward_first}
use Rattle.alma_rules.proofs.Exprs.{next_of}

pub stmts_last : (xs : ir.Stmts) → parts.append_stmts xs ir.no_stmts ≡ xs
stmts_last ir.no_stmts = refl
stmts_last (ir.more_stmts line x xs) = ap (ir.more_stmts line x) (stmts_last xs)

module _ (s : Scene) where
  stmts_at : (n k : ℕ) (x : tree.Stmt) (rest : tree.StmtTail)
      → walk.judge_stmts s n (tree.stmts k x rest) ≡ with parts.joined_stmts
      (and_then (walk.judge_stmt s n x) (λ m. walk.judge_stmt_tail s m rest))
  unfolding walk.judge_stmts
  stmts_at n k x rest = refl

  tail_at : (n : ℕ) (x : tree.Stmt) (rest : tree.StmtTail)
      → walk.judge_stmt_tail s n (tree.more_stmt x rest) ≡ with parts.joined_stmts
      (and_then (walk.judge_stmt s n x) (λ m. walk.judge_stmt_tail s m rest))
  unfolding walk.judge_stmts
  tail_at n x rest = refl

  pub stmts_stops : (n : ℕ) (t : ds.Stmts) (x : Stop) → Stops (walk.judge_stmt s n (view.view_stmt t.first.value)).faults x
      → Stops (walk.judge_stmts s n (view.view_stmts t)).faults x
  stmts_stops n t x h = rw (stmts_at n t.node (view.view_stmt t.first.value) (view.stmts_of t.more.items)) (stops_more _ _ x h)

  pub stmts_fine : (n : ℕ) (t : ds.Stmts) (m : ℕ) (v : Option ir.Stmts) → walk.judge_stmt s n (view.view_stmt t.first.value) ≡ of_value m v
      → walk.judge_stmts s n (view.view_stmts t) ≡ onward parts.append_stmts v (walk.judge_stmt_tail s m (view.stmts_of t.more.items))
  stmts_fine n t m v h =
      stmts_at n t.node (view.view_stmt t.first.value) (view.stmts_of t.more.items)
      ∙ rw h (onward_first parts.append_stmts parts.joined_stmts v m (walk.judge_stmt_tail s m (view.stmts_of t.more.items)) (λ a b. refl))

  pub stmts_next : (n i : ℕ) (all : List dt.Stmt) (x : dt.Stmt) → i < length all → x ≡ get_or all i x
      → walk.judge_stmt_tail s n (view.stmts_of (drop i all)) ≡ with parts.joined_stmts
      (and_then (walk.judge_stmt s n (view.view_stmt x)) (λ m. walk.judge_stmt_tail s m (view.stmts_of (drop (i + 1) all))))
  stmts_next n i all x h is = ap (λ xs. walk.judge_stmt_tail s n (view.stmts_of xs)) (next_of all i x h is) ∙ tail_at n _ _

  pub stmts_end : (n i : ℕ) (all : List dt.Stmt) → length all ≤ i
      → walk.judge_stmt_tail s n (view.stmts_of (drop i all)) ≡ fine n ir.no_stmts
  unfolding walk.judge_stmts
  stmts_end n i all h = ap (λ xs. walk.judge_stmt_tail s n (view.stmts_of xs)) (drop_all i all h)

  pub nothing_at : (n k : ℕ) → walk.judge_stmt s n (tree.nothing k) ≡ fine n ir.no_stmts
  unfolding walk.judge_stmts
  nothing_at n k = refl

  assign_at : (n : ℕ) (k : ℕ) (d : tree.Desig) (e : tree.Expr)
      → walk.judge_stmt s n (tree.assign k d e) ≡ with (parts.assignment_stmts s)
      (at_node k (stmt_rules.assign_rules s) (and_then (with_some parts.located_in (walk.judge_desig s n rules.as_variable d))
      (λ m. walk.judge_expr s m e)))
  unfolding walk.judge_stmts
  assign_at n k d e = refl

  pub assign_stops : (n : ℕ) (k : ℕ) (d : tree.Desig) (e : tree.Expr) (x : Stop)
      → Stops (with_some parts.located_in (walk.judge_desig s n rules.as_variable d)).faults x
      → Stops (walk.judge_stmt s n (tree.assign k d e)).faults x
  assign_stops n k d e x h = rw (assign_at n k d e) (stops_more _ _ x (stops_more _ _ x h))

  pub assign_fine : {X : Type 0} (n : ℕ) (k : ℕ) (d : tree.Desig) (e : tree.Expr) (w : X → ir.Stmts) (m i : ℕ) (v : Option (parts.Location))
      (r : Result (Option X) Stop) → with_some parts.located_in (walk.judge_desig s n rules.as_variable d) ≡ of_value m v
      → Answers (with (parts.assignment_stmts s) (at_node k (stmt_rules.assign_rules s) (both (of_value m v) (walk.judge_expr s m e)))) w i
      r
      → Answers (walk.judge_stmt s n (tree.assign k d e)) w i r
  assign_fine n k d e w m i v r h a = first_fine (λ j. with (parts.assignment_stmts s) (at_node k (stmt_rules.assign_rules s) j))
      (walk.judge_stmt s n (tree.assign k d e)) (with_some parts.located_in (walk.judge_desig s n rules.as_variable d))
      (λ m. walk.judge_expr s m e) w m i v r (assign_at n k d e) h a

  while_at : (n : ℕ) (k : ℕ) (e : tree.Expr) (b : tree.Stmts)
      → walk.judge_stmt s n (tree.while_stmt k e b) ≡ nodes.one
      (with (λ p. ir.While p.0 p.1) (and_then (nodes.condition_at s e (walk.judge_expr s n e)) (λ m. walk.judge_stmts s m b)))
  unfolding walk.judge_stmts
  while_at n k e b = refl

  pub while_stops : (n : ℕ) (k : ℕ) (e : tree.Expr) (b : tree.Stmts) (x : Stop)
      → Stops (nodes.condition_at s e (walk.judge_expr s n e)).faults x → Stops (walk.judge_stmt s n (tree.while_stmt k e b)).faults x
  while_stops n k e b x h = rw (while_at n k e b) (stops_more _ _ x h)

  pub while_fine : {X : Type 0} (n : ℕ) (k : ℕ) (e : tree.Expr) (b : tree.Stmts) (w : X → ir.Stmts) (m i : ℕ) (v : Option (ir.Test))
      (r : Result (Option X) Stop) → nodes.condition_at s e (walk.judge_expr s n e) ≡ of_value m v
      → Answers (nodes.one (with (λ p. ir.While p.0 p.1) (both (of_value m v) (walk.judge_stmts s m b)))) w i r
      → Answers (walk.judge_stmt s n (tree.while_stmt k e b)) w i r
  while_fine n k e b w m i v r h a = first_fine (λ j. nodes.one (with (λ p. ir.While p.0 p.1) j))
      (walk.judge_stmt s n (tree.while_stmt k e b)) (nodes.condition_at s e (walk.judge_expr s n e)) (λ m. walk.judge_stmts s m b) w m i v r
      (while_at n k e b) h a

  repeat_at : (n : ℕ) (k : ℕ) (b : tree.Stmts) (e : tree.Expr)
      → walk.judge_stmt s n (tree.repeat_stmt k b e) ≡ nodes.one
      (with (λ p. ir.Repeat p.0 p.1) (and_then (walk.judge_stmts s n b) (λ m. nodes.condition_at s e (walk.judge_expr s m e))))
  unfolding walk.judge_stmts
  repeat_at n k b e = refl

  pub repeat_stops : (n : ℕ) (k : ℕ) (b : tree.Stmts) (e : tree.Expr) (x : Stop) → Stops (walk.judge_stmts s n b).faults x
      → Stops (walk.judge_stmt s n (tree.repeat_stmt k b e)).faults x
  repeat_stops n k b e x h = rw (repeat_at n k b e) (stops_more _ _ x h)

  pub repeat_fine : {X : Type 0} (n : ℕ) (k : ℕ) (b : tree.Stmts) (e : tree.Expr) (w : X → ir.Stmts) (m i : ℕ) (v : Option (ir.Stmts))
      (r : Result (Option X) Stop) → walk.judge_stmts s n b ≡ of_value m v
      → Answers (nodes.one (with (λ p. ir.Repeat p.0 p.1) (both (of_value m v) (nodes.condition_at s e (walk.judge_expr s m e))))) w i r
      → Answers (walk.judge_stmt s n (tree.repeat_stmt k b e)) w i r
  repeat_fine n k b e w m i v r h a = first_fine (λ j. nodes.one (with (λ p. ir.Repeat p.0 p.1) j))
      (walk.judge_stmt s n (tree.repeat_stmt k b e)) (walk.judge_stmts s n b) (λ m. nodes.condition_at s e (walk.judge_expr s m e)) w m i v
      r (repeat_at n k b e) h a

  forall_at : (n : ℕ) (k : ℕ) (c b : tree.Stmts)
      → walk.judge_stmt s n (tree.forall_stmt k c b) ≡ nodes.one
      (with (λ p. ir.Forall p.0 p.1) (and_then (walk.judge_stmts (inside_of s) n c) (λ m. walk.judge_stmts (inside_of s) m b)))
  unfolding walk.judge_stmts
  forall_at n k c b = refl

  pub forall_stops : (n : ℕ) (k : ℕ) (c b : tree.Stmts) (x : Stop) → Stops (walk.judge_stmts (inside_of s) n c).faults x
      → Stops (walk.judge_stmt s n (tree.forall_stmt k c b)).faults x
  forall_stops n k c b x h = rw (forall_at n k c b) (stops_more _ _ x h)

  pub forall_fine : {X : Type 0} (n : ℕ) (k : ℕ) (c b : tree.Stmts) (w : X → ir.Stmts) (m i : ℕ) (v : Option (ir.Stmts))
      (r : Result (Option X) Stop) → walk.judge_stmts (inside_of s) n c ≡ of_value m v
      → Answers (nodes.one (with (λ p. ir.Forall p.0 p.1) (both (of_value m v) (walk.judge_stmts (inside_of s) m b)))) w i r
      → Answers (walk.judge_stmt s n (tree.forall_stmt k c b)) w i r
  forall_fine n k c b w m i v r h a = first_fine (λ j. nodes.one (with (λ p. ir.Forall p.0 p.1) j))
      (walk.judge_stmt s n (tree.forall_stmt k c b)) (walk.judge_stmts (inside_of s) n c) (λ m. walk.judge_stmts (inside_of s) m b) w m i v
      r (forall_at n k c b) h a

  pub value_at : (n k : ℕ) (e : tree.Expr)
      → walk.judge_stmt s n (tree.value k e) ≡ nodes.one (with ir.TestStmt (nodes.condition_at s e (walk.judge_expr s n e)))
  unfolding walk.judge_stmts
  value_at n k e = refl

  pub commit_at : (n k : ℕ) (b : tree.Stmts)
      → walk.judge_stmt s n (tree.commit_stmt k b) ≡ nodes.one (with ir.Commit (walk.judge_stmts (inside_of s) n b))
  unfolding walk.judge_stmts
  commit_at n k b = refl

  pub bare_return_is : (n k : ℕ) → walk.judge_stmt s n (tree.return_stmt k tree.no_value) ≡ nodes.one (nodes.bare_return_at s n k)
  unfolding walk.judge_stmts
  bare_return_is n k = refl

  pub return_is : (n k : ℕ) (e : tree.Expr)
      → walk.judge_stmt s n (tree.return_stmt k (tree.returned e)) ≡ nodes.one (nodes.return_at s k (walk.judge_expr s n e))
  unfolding walk.judge_stmts
  return_is n k e = refl

  pub write_is : (n k : ℕ) (items : tree.Exprs) → walk.judge_stmt s n (tree.write_stmt k items) ≡ walk.judge_items s n items
  unfolding walk.judge_stmts
  write_is n k items = refl

  pub writeln_is : (n k : ℕ) (a : tree.Args)
      → walk.judge_stmt s n (tree.writeln_stmt k a) ≡ with nodes.with_line (walk.judge_line_items s n a)
  unfolding walk.judge_stmts
  writeln_is n k a = refl

  pub line_none : (n : ℕ) → walk.judge_line_items s n tree.no_args ≡ fine n ir.no_stmts
  unfolding walk.judge_stmts
  line_none n = refl

  pub line_empty : (n : ℕ) → walk.judge_line_items s n tree.empty_args ≡ fine n ir.no_stmts
  unfolding walk.judge_stmts
  line_empty n = refl

  pub line_some : (n : ℕ) (items : tree.Exprs) → walk.judge_line_items s n (tree.args items) ≡ walk.judge_items s n items
  unfolding walk.judge_stmts
  line_some n items = refl

  pub else_none : (n : ℕ) → walk.judge_else s n tree.no_else ≡ fine n ir.no_stmts
  unfolding walk.judge_stmts
  else_none n = refl

  pub else_some : (n : ℕ) (b : tree.Stmts) → walk.judge_else s n (tree.else_stmts b) ≡ walk.judge_stmts s n b
  unfolding walk.judge_stmts
  else_some n b = refl

  pub case_else_none : (n : ℕ) → walk.judge_case_else s n tree.no_else ≡ fine n ir.no_else
  unfolding walk.judge_stmts
  case_else_none n = refl

  pub case_else_some : (n : ℕ) (b : tree.Stmts) → walk.judge_case_else s n (tree.else_stmts b) ≡ with ir.else_part (walk.judge_stmts s n b)
  unfolding walk.judge_stmts
  case_else_some n b = refl

  pub by_none : (n : ℕ) → walk.judge_by s n tree.no_by ≡ fine n (pos 1)
  unfolding walk.judge_stmts
  by_none n = refl

  pub by_some : (n : ℕ) (e : tree.Expr) → walk.judge_by s n (tree.by_expr e) ≡ nodes.step_at (in_constant s) e
      (walk.judge_expr (in_constant s) n e)
  unfolding walk.judge_stmts
  by_some n e = refl

  -- ---- IF
  abbrev pub guarded : ℕ → tree.Expr → tree.Stmts → Judgement (ir.Test × ir.Stmts)
  guarded n e b = and_then (nodes.condition_at s e (walk.judge_expr s n e)) (λ m. walk.judge_stmts s m b)

  if_at : (n k : ℕ) (e : tree.Expr) (b : tree.Stmts) (more : tree.ElsifTail) (other : tree.Else)
      → walk.judge_stmt s n (tree.if_stmt k e b more other) ≡ nodes.one
      (with nodes.if_of (and_then (nodes.condition_at s e (walk.judge_expr s n e))
      (λ m. and_then (walk.judge_stmts s m b) (λ i. and_then (walk.judge_elsifs s i more) (λ j. walk.judge_else s j other)))))
  unfolding walk.judge_stmts
  if_at n k e b more other = refl

  elsifs_at : (n : ℕ) (e : tree.Expr) (b : tree.Stmts) (rest : tree.ElsifTail)
      → walk.judge_elsifs s n (tree.more_elsif e b rest) ≡ with nodes.arms_of
      (and_then (nodes.condition_at s e (walk.judge_expr s n e)) (λ m. and_then (walk.judge_stmts s m b) (λ i. walk.judge_elsifs s i rest)))
  unfolding walk.judge_stmts
  elsifs_at n e b rest = refl

  -- the condition and the body first, and the rest behind them
  faults_more : (xs ys zs : List BrokenRule) → xs ++ (ys ++ zs) ≡ (xs ++ ys) ++ zs
  faults_more [] ys zs = refl
  faults_more (x ∷ xs) ys zs = ap (λ l. x ∷ l) (faults_more xs ys zs)

  elsif_by : (c : Judgement ir.Test) (b : Judgement ir.Stmts) (r : Judgement ir.Arms)
      → with nodes.arms_of (both c (both b r)) ≡ with (λ p. ir.more_arms p.0.0 p.0.1 p.1) (both (both c b) r)
  elsif_by c b r = by c.value b.value r.value
    where
      by : (u : Option ir.Test) (v : Option ir.Stmts) (w : Option ir.Arms)
          → judged {A = ir.Arms} (c.faults ++ (b.faults ++ r.faults)) (r.next) (option_map nodes.arms_of (both_of u (both_of v w)))
          ≡ judged ((c.faults ++ b.faults) ++ r.faults) (r.next) (option_map (λ p. ir.more_arms p.0.0 p.0.1 p.1) (both_of (both_of u v) w))
      by None v w = rw (faults_more c.faults b.faults r.faults) refl
      by (Some u) None w = rw (faults_more c.faults b.faults r.faults) refl
      by (Some u) (Some v) None = rw (faults_more c.faults b.faults r.faults) refl
      by (Some u) (Some v) (Some w) = rw (faults_more c.faults b.faults r.faults) refl

  pub elsifs_next : (n i : ℕ) (all : List df.Elsif) (x : df.Elsif) → i < length all → x ≡ get_or all i x
      → walk.judge_elsifs s n (view.elsifs_of (drop i all))
      ≡ with (λ p. ir.more_arms p.0.0 p.0.1 p.1)
      (and_then (guarded n (view.view_expr (df.out-Elsif x).test) (view.view_stmts (df.out-Elsif x).then))
      (λ m. walk.judge_elsifs s m (view.elsifs_of (drop (i + 1) all))))
  elsifs_next n i all x h is =
      ap (λ xs. walk.judge_elsifs s n (view.elsifs_of xs)) (next_of all i x h is) ∙ elsifs_at n _ _ _
      ∙ elsif_by (nodes.condition_at s (view.view_expr (df.out-Elsif x).test) (walk.judge_expr s n (view.view_expr (df.out-Elsif x).test)))
      (walk.judge_stmts s (walk.judge_expr s n (view.view_expr (df.out-Elsif x).test)).next (view.view_stmts (df.out-Elsif x).then))
      (walk.judge_elsifs s (walk.judge_stmts s (walk.judge_expr s n (view.view_expr (df.out-Elsif x).test)).next
      (view.view_stmts (df.out-Elsif x).then)).next (view.elsifs_of (drop (i + 1) all)))

  pub elsifs_end : (n i : ℕ) (all : List df.Elsif) → length all ≤ i
      → walk.judge_elsifs s n (view.elsifs_of (drop i all)) ≡ fine n ir.no_arms
  unfolding walk.judge_stmts
  elsifs_end n i all h = ap (λ xs. walk.judge_elsifs s n (view.elsifs_of xs)) (drop_all i all h)

  pub arms_last : (xs : ir.Arms) → append_arms xs ir.no_arms ≡ xs
  arms_last ir.no_arms = refl
  arms_last (ir.more_arms c b xs) = ap (ir.more_arms c b) (arms_last xs)

  -- IF in three steps: its first arm, with which the list of arms begins; the arms behind it; the ELSE part
  if_by : (c : Judgement ir.Test) (b : Judgement ir.Stmts) (r : Judgement ir.Arms) (o : Judgement ir.Stmts)
      → nodes.one (with nodes.if_of (both c (both b (both r o))))
      ≡ nodes.one (with (λ p. ir.If p.0 p.1) (both
      (onward append_arms (Some ir.no_arms) (with (λ p. ir.more_arms p.0.0 p.0.1 p.1) (both (both c b) r))) o))
  if_by c b r o = by c.value b.value r.value o.value
    where
      by : (u : Option ir.Test) (v : Option ir.Stmts) (w : Option ir.Arms) (y : Option ir.Stmts)
          → judged {A = ir.Stmts} (c.faults ++ (b.faults ++ (r.faults ++ o.faults))) (o.next)
          (option_map parts.one_stmt (option_map nodes.if_of (both_of u (both_of v (both_of w y)))))
          ≡ judged (((c.faults ++ b.faults) ++ r.faults) ++ o.faults) (o.next)
          (option_map parts.one_stmt (option_map (λ p. ir.If p.0 p.1)
          (both_of (option_map (append_arms ir.no_arms) (option_map (λ p. ir.more_arms p.0.0 p.0.1 p.1) (both_of (both_of u v) w))) y)))
      by None v w y = rw (faults_more c.faults b.faults (r.faults ++ o.faults), faults_more (c.faults ++ b.faults) r.faults o.faults) refl
      by (Some u) None w y = rw (faults_more c.faults b.faults (r.faults ++ o.faults), faults_more (c.faults ++ b.faults) r.faults o.faults)
          refl
      by (Some u) (Some v) None y = rw (
        faults_more c.faults b.faults (r.faults ++ o.faults),
        faults_more (c.faults ++ b.faults) r.faults o.faults,
      ) refl
      by (Some u) (Some v) (Some w) None = rw (
        faults_more c.faults b.faults (r.faults ++ o.faults),
        faults_more (c.faults ++ b.faults) r.faults o.faults,
      ) refl
      by (Some u) (Some v) (Some w) (Some y) =
          rw (faults_more c.faults b.faults (r.faults ++ o.faults), faults_more (c.faults ++ b.faults) r.faults o.faults) refl

  -- its arms, all in one
  abbrev pub arms_in_all : ℕ → tree.Expr → tree.Stmts → tree.ElsifTail → Judgement ir.Arms
  arms_in_all n e b more = onward append_arms (Some ir.no_arms)
      (with (λ p. ir.more_arms p.0.0 p.0.1 p.1) (and_then (guarded n e b) (λ m. walk.judge_elsifs s m more)))

  pub if_whole : (n k : ℕ) (e : tree.Expr) (b : tree.Stmts) (more : tree.ElsifTail) (other : tree.Else)
      → walk.judge_stmt s n (tree.if_stmt k e b more other)
      ≡ nodes.one (with (λ p. ir.If p.0 p.1) (and_then (arms_in_all n e b more) (λ j. walk.judge_else s j other)))
  if_whole n k e b more other = if_at n k e b more other
      ∙ if_by (nodes.condition_at s e (walk.judge_expr s n e)) (walk.judge_stmts s (walk.judge_expr s n e).next b)
      (walk.judge_elsifs s (walk.judge_stmts s (walk.judge_expr s n e).next b).next more)
      (walk.judge_else s (walk.judge_elsifs s (walk.judge_stmts s (walk.judge_expr s n e).next b).next more).next other)

  pub if_stops : (n k : ℕ) (e : tree.Expr) (b : tree.Stmts) (more : tree.ElsifTail) (other : tree.Else) (x : Stop)
      → Stops (arms_in_all n e b more).faults x
      → Stops (walk.judge_stmt s n (tree.if_stmt k e b more other)).faults x
  if_stops n k e b more other x h = rw (if_whole n k e b more other) (stops_more (arms_in_all n e b more).faults _ x h)

  pub if_arms_stops : (n k : ℕ) (e : tree.Expr) (b : tree.Stmts) (more : tree.ElsifTail) (other : tree.Else) (m : ℕ) (v : Option ir.Arms)
      (x : Stop)
      → arms_in_all n e b more ≡ onward append_arms v (walk.judge_elsifs s m more)
      → Stops (onward append_arms v (walk.judge_elsifs s m more)).faults x
      → Stops (walk.judge_stmt s n (tree.if_stmt k e b more other)).faults x
  if_arms_stops n k e b more other m v x is h =
      if_stops n k e b more other x (subst (λ (j : Judgement ir.Arms). Stops j.faults x) (sym is) h)

  pub if_fine : {X : Type 0} (n k : ℕ) (e : tree.Expr) (b : tree.Stmts) (more : tree.ElsifTail) (other : tree.Else) (m i u : ℕ)
      (v y : Option ir.Arms) (w : X → ir.Stmts) (r : Result (Option X) Stop)
      → arms_in_all n e b more ≡ onward append_arms v (walk.judge_elsifs s m more)
      → onward append_arms v (walk.judge_elsifs s m more) ≡ of_value i y
      → Answers (nodes.one (with (λ p. ir.If p.0 p.1) (both (of_value i y) (walk.judge_else s i other)))) w u r
      → Answers (walk.judge_stmt s n (tree.if_stmt k e b more other)) w u r
  if_fine n k e b more other m i u v y w r is h a =
      first_fine (λ j. nodes.one (with (λ p. ir.If p.0 p.1) j)) (walk.judge_stmt s n (tree.if_stmt k e b more other))
      (arms_in_all n e b more) (λ j. walk.judge_else s j other) w i u y r
      (if_whole n k e b more other) (is ∙ h) a

  either_at : (n k : ℕ) (b : tree.Stmts) (rest : tree.OrelseTail)
      → walk.judge_stmt s n (tree.either_stmt k b rest) ≡ nodes.one
      (with (λ p. ir.Either (ir.more_branches p.0 p.1)) (and_then (walk.judge_stmts s n b) (λ m. walk.judge_orelses s m rest)))
  unfolding walk.judge_stmts
  either_at n k b rest = refl

  orelses_at : (n : ℕ) (b : tree.Stmts) (rest : tree.OrelseTail)
      → walk.judge_orelses s n (tree.more_orelse b rest) ≡ with (λ p. ir.more_branches p.0 p.1)
      (and_then (walk.judge_stmts s n b) (λ m. walk.judge_orelses s m rest))
  unfolding walk.judge_stmts
  orelses_at n b rest = refl

  abbrev pub branches_in_all : ℕ → tree.Stmts → tree.OrelseTail → Judgement ir.Branches
  branches_in_all n b rest = onward append_branches (Some ir.no_branches)
      (with (λ p. ir.more_branches p.0 p.1) (and_then (walk.judge_stmts s n b) (λ m. walk.judge_orelses s m rest)))

  either_by : (b : Judgement ir.Stmts) (r : Judgement ir.Branches) → nodes.one (with (λ p. ir.Either (ir.more_branches p.0 p.1)) (both b r))
      ≡ nodes.one (with ir.Either (onward append_branches (Some ir.no_branches) (with (λ p. ir.more_branches p.0 p.1) (both b r))))
  either_by b r = by b.value r.value
    where
      by : (u : Option ir.Stmts) (v : Option ir.Branches)
          → judged {A = ir.Stmts} (b.faults ++ r.faults) (r.next)
          (option_map parts.one_stmt (option_map (λ p. ir.Either (ir.more_branches p.0 p.1)) (both_of u v)))
          ≡ judged (b.faults ++ r.faults) (r.next)
          (option_map parts.one_stmt (option_map ir.Either
          (option_map (append_branches ir.no_branches) (option_map (λ p. ir.more_branches p.0 p.1) (both_of u v)))))
      by None v = refl
      by (Some u) None = refl
      by (Some u) (Some v) = refl

  pub either_whole : (n k : ℕ) (b : tree.Stmts) (rest : tree.OrelseTail)
      → walk.judge_stmt s n (tree.either_stmt k b rest) ≡ nodes.one (with ir.Either (branches_in_all n b rest))
  either_whole n k b rest = either_at n k b rest
      ∙ either_by (walk.judge_stmts s n b) (walk.judge_orelses s (walk.judge_stmts s n b).next rest)

  pub either_stops : (n k : ℕ) (b : tree.Stmts) (rest : tree.OrelseTail) (x : Stop) → Stops (branches_in_all n b rest).faults x
      → Stops (walk.judge_stmt s n (tree.either_stmt k b rest)).faults x
  either_stops n k b rest x h = rw (either_whole n k b rest) h

  pub orelses_next : (n i : ℕ) (all : List ds.Stmts) (x : ds.Stmts) → i < length all → x ≡ get_or all i x
      → walk.judge_orelses s n (view.orelses_of (drop i all)) ≡ with (λ p. ir.more_branches p.0 p.1)
      (and_then (walk.judge_stmts s n (view.view_stmts x)) (λ m. walk.judge_orelses s m (view.orelses_of (drop (i + 1) all))))
  orelses_next n i all x h is = ap (λ xs. walk.judge_orelses s n (view.orelses_of xs)) (next_of all i x h is) ∙ orelses_at n _ _

  pub orelses_end : (n i : ℕ) (all : List ds.Stmts) → length all ≤ i
      → walk.judge_orelses s n (view.orelses_of (drop i all)) ≡ fine n ir.no_branches
  unfolding walk.judge_stmts
  orelses_end n i all h = ap (λ xs. walk.judge_orelses s n (view.orelses_of xs)) (drop_all i all h)

  pub branches_last : (xs : ir.Branches) → append_branches xs ir.no_branches ≡ xs
  branches_last ir.no_branches = refl
  branches_last (ir.more_branches b xs) = ap (ir.more_branches b) (branches_last xs)

  read_at_is : (n k : ℕ) (d : tree.Desig) (rest : tree.DesigTail)
      → walk.judge_stmt s n (tree.read_stmt k d rest) ≡ with parts.joined_stmts
      (and_then (nodes.read_at s d (walk.judge_desig s n rules.as_variable d)) (λ m. walk.judge_reads s m rest))
  unfolding walk.judge_stmts
  read_at_is n k d rest = refl

  reads_at : (n : ℕ) (d : tree.Desig) (rest : tree.DesigTail)
      → walk.judge_reads s n (tree.more_desig d rest) ≡ with parts.joined_stmts
      (and_then (nodes.read_at s d (walk.judge_desig s n rules.as_variable d)) (λ m. walk.judge_reads s m rest))
  unfolding walk.judge_stmts
  reads_at n d rest = refl

  joined_by : (a : Judgement ir.Stmts) (m : ℕ) (v : Option ir.Stmts) (g : ℕ → Judgement ir.Stmts) → a ≡ of_value m v
      → with parts.joined_stmts (and_then a g) ≡ onward parts.append_stmts v (g m)
  joined_by a m v g h = rw h (onward_first parts.append_stmts parts.joined_stmts v m (g m) (λ x y. refl))

  pub read_stops : (n k : ℕ) (d : tree.Desig) (rest : tree.DesigTail) (x : Stop)
      → Stops (nodes.read_at s d (walk.judge_desig s n rules.as_variable d)).faults x
      → Stops (walk.judge_stmt s n (tree.read_stmt k d rest)).faults x
  read_stops n k d rest x h = rw (read_at_is n k d rest)
      (stops_more (nodes.read_at s d (walk.judge_desig s n rules.as_variable d)).faults _ x h)

  pub read_fine : (n k : ℕ) (d : tree.Desig) (rest : tree.DesigTail) (m : ℕ) (v : Option ir.Stmts)
      → nodes.read_at s d (walk.judge_desig s n rules.as_variable d) ≡ of_value m v
      → walk.judge_stmt s n (tree.read_stmt k d rest) ≡ onward parts.append_stmts v (walk.judge_reads s m rest)
  read_fine n k d rest m v h = read_at_is n k d rest
      ∙ joined_by (nodes.read_at s d (walk.judge_desig s n rules.as_variable d)) m v (λ i. walk.judge_reads s i rest) h

  pub reads_next : (n i : ℕ) (all : List dd.Desig) (x : dd.Desig) → i < length all → x ≡ get_or all i x
      → walk.judge_reads s n (view.desigs_of (drop i all)) ≡ with parts.joined_stmts
      (and_then (nodes.read_at s (view.view_desig x) (walk.judge_desig s n rules.as_variable (view.view_desig x)))
      (λ m. walk.judge_reads s m (view.desigs_of (drop (i + 1) all))))
  reads_next n i all x h is = ap (λ xs. walk.judge_reads s n (view.desigs_of xs)) (next_of all i x h is) ∙ reads_at n _ _

  pub reads_end : (n i : ℕ) (all : List dd.Desig) → length all ≤ i → walk.judge_reads s n (view.desigs_of (drop i all)) ≡ fine n ir.no_stmts
  unfolding walk.judge_stmts
  reads_end n i all h = ap (λ xs. walk.judge_reads s n (view.desigs_of xs)) (drop_all i all h)

  abbrev pub item : ℕ → tree.Expr → Judgement ir.Stmts
  item n e = nodes.item_of s n (tree.expr_node e) (nodes.item_literal e) (walk.judge_expr s n e)

  items_at : (n : ℕ) (e : tree.Expr) (rest : tree.ExprTail)
      → walk.judge_items s n (tree.exprs e rest) ≡ with parts.joined_stmts (and_then (item n e) (λ m. walk.judge_item_tail s m rest))
  unfolding walk.judge_stmts
  items_at n e rest = refl

  item_tail_at : (n : ℕ) (e : tree.Expr) (rest : tree.ExprTail)
      → walk.judge_item_tail s n (tree.more_expr e rest) ≡ with parts.joined_stmts
      (and_then (item n e) (λ m. walk.judge_item_tail s m rest))
  unfolding walk.judge_stmts
  item_tail_at n e rest = refl

  pub items_stops : (n : ℕ) (t : dx.Exprs) (x : Stop) → Stops (item n (view.view_expr (dx.out-Exprs t).first.value)).faults x
      → Stops (walk.judge_items s n (view.view_exprs t)).faults x
  items_stops n t x h = rw (ap (walk.judge_items s n) (rows.exprs_is t) ∙ items_at n _ _)
      (stops_more (item n (view.view_expr (dx.out-Exprs t).first.value)).faults _ x h)

  pub items_fine : (n : ℕ) (t : dx.Exprs) (m : ℕ) (v : Option ir.Stmts)
      → item n (view.view_expr (dx.out-Exprs t).first.value) ≡ of_value m v
      → walk.judge_items s n (view.view_exprs t) ≡ onward parts.append_stmts v
      (walk.judge_item_tail s m (view.exprs_of (dx.out-Exprs t).more.items))
  items_fine n t m v h =
      ap (walk.judge_items s n) (rows.exprs_is t) ∙ items_at n _ _
      ∙ joined_by (item n (view.view_expr (dx.out-Exprs t).first.value)) m v
      (λ i. walk.judge_item_tail s i (view.exprs_of (dx.out-Exprs t).more.items)) h

  pub items_next : (n i : ℕ) (all : List de.Expr) (x : de.Expr) → i < length all → x ≡ get_or all i x
      → walk.judge_item_tail s n (view.exprs_of (drop i all)) ≡ with parts.joined_stmts
      (and_then (item n (view.view_expr x)) (λ m. walk.judge_item_tail s m (view.exprs_of (drop (i + 1) all))))
  items_next n i all x h is = ap (λ xs. walk.judge_item_tail s n (view.exprs_of xs)) (next_of all i x h is) ∙ item_tail_at n _ _

  pub items_end : (n i : ℕ) (all : List de.Expr) → length all ≤ i
      → walk.judge_item_tail s n (view.exprs_of (drop i all)) ≡ fine n ir.no_stmts
  unfolding walk.judge_stmts
  items_end n i all h = ap (λ xs. walk.judge_item_tail s n (view.exprs_of xs)) (drop_all i all h)
