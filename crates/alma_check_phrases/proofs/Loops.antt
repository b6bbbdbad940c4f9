-- FOR and SOME, by what the code knows of their parts.
use Rattle.std.proofs.Common.{◌≡◌, ℕ, ◌+◌, ◌<◌, ◌^◌, List, [], ◌∷◌, ◌++◌, Option, None, Vec, Global, Result, Ok, Err, refl, sym, subst, ap}
use Rattle.std.proofs.Common.{◌∙◌}
use Rattle.std.specs.Prelude.{pos, option_and_then, IfOk}
use Rattle.std.specs.Result.{IsErrAnd}
use Rattle.alma_tree.specs.declared.leaf.Name.{Name}
use Rattle.alma_ir.specs.Tree as ir
use Rattle.alma_ir.specs.declared.phrase.Stmt.{Stmt}
use Rattle.alma_rules.specs.declared.error.Stop.{Stop}
use Rattle.alma_rules.specs.declared.error.Stop.TheVariants.{Fault, Memory}
use Rattle.alma_rules.specs.Numbered as tree
use Rattle.alma_rules.specs.View.{view_name}
use Rattle.alma_rules.specs.Judgement.{BrokenRule, Judgement, fine, of_value, broken_at, with}
use Rattle.alma_rules.specs.Answers.{Stops, Answers}
use Rattle.alma_rules.specs.Scene.{found}
use Rattle.alma_rules.specs.Parts as parts
use Rattle.alma_rules.specs.StmtRules as stmt_rules
use Rattle.alma_rules.specs.Nodes as nodes
use Rattle.alma_rules.specs.Walk as walk
use Rattle.alma_check_rules.specs.declared.env.Env.{Env}
use Rattle.alma_check_rules.specs.declared.env.Place.{Place}
use Rattle.alma_check_rules.specs.Views.{scene_of, somewhere, headings_in, found_view, typing_in, stmts_of}
use Rattle.alma_check_join_stmt.specs.declared.turns.Start.{Start}
use Rattle.alma_check_join_stmt.specs.declared.turns.Head.{Head}
use Rattle.alma_check_join_stmt.specs.declared.turns.Turns.{Turns}
use Rattle.alma_check_join_stmt.specs.Bounded.{Starts, HeadOf, JudgesHead, IsHead, head_faults, variable_of}
use Rattle.alma_rules.proofs.Judging.{stops_more}
use Rattle.alma_rules.proofs.Onwards.{judged}
use Rattle.alma_rules.proofs.Turns as turns
use Rattle.alma_check_phrases.proofs.Same.{found_same}

-- what is judged, where it breaks no rule
whole_of : {A : Type 0} (j : Judgement A) → j.faults ≡ [] → j ≡ of_value j.next j.value
whole_of j h = ap (λ fs. judged fs j.next j.value) h

-- nothing is broken in front
stops_behind : (xs ys : List BrokenRule) (x : Stop) → xs ≡ [] → Stops ys x → Stops (xs ++ ys) x
stops_behind xs ys x none h = rw none h

none_of : {A : Type 0} (j : Judgement A) (i : ℕ) (v : Option A) → j ≡ of_value i v → j.faults ≡ []
none_of j i v h = ap (λ (k : Judgement _). k.faults) h

-- it goes on at the same slot, with a value by another name
as_next : {A : Type 0} (j : Judgement A) (i : ℕ) (v w : Option A) → j ≡ of_value i v → w ≡ v → j ≡ of_value j.next w
as_next j i v w h is = whole_of j (none_of j i v h) ∙ ap (of_value j.next) (ap (λ (k : Judgement _). k.value) h ∙ sym is)

-- the first of two lists that is not empty stops
first_of : (xs ys : List BrokenRule) (x : Stop) (P : Type 0) → (Stops xs x → P) → (xs ≡ [] → Stops ys x → P) → Stops (xs ++ ys) x → P
first_of [] ys x P f g h = g refl h
first_of (b ∷ bs) ys (Fault k n) P f g h = f h
first_of (b ∷ bs) ys Memory P f g h = f tt

module _ (e : Env) (p : Place) (n : ℕ) (name : Name) where
  rules_there : stmt_rules.loop_name_rules (scene_of e p) (found (scene_of e somewhere) (view_name name)) None ≡ []
      → stmt_rules.loop_name_rules (scene_of e p) (found (scene_of e p) (view_name name)) None ≡ []
  rules_there h = rw (found_same e p (view_name name)) h

  variable_is : (s : Start) → found_view (headings_in e) s.found ≡ found (scene_of e somewhere) (view_name name)
      → stmt_rules.loop_name_rules (scene_of e p) (found (scene_of e somewhere) (view_name name)) None ≡ []
      → nodes.loop_variable (scene_of e p) n (view_name name) ≡ of_value n (variable_of e s.found)
  variable_is s is h =
      turns.variable_fine (scene_of e p) n (view_name name) (rules_there h)
      ∙ ap (λ (x : _). of_value n (option_and_then parts.located_in (parts.denotation (scene_of e somewhere) x)))
      (found_same e p (view_name name) ∙ sym is)

  module _ (low high : tree.Expr) where
    -- an error that `?` hands on
    pub head_passed : (next : ℕ) (r : Result Head Stop) (x : Stop) → IsErrAnd r (λ y. y ≡ x)
        → Stops (head_faults (scene_of e p) n (view_name name) low high) x
        → JudgesHead e p (view_name name) low high n next r
    head_passed next (Ok h) x is t = absurd is
    head_passed next (Err y) x is t = rw is t

    -- the name breaks a rule
    pub start_stops : (x : Stop) → Stops (broken_at name.node
        (stmt_rules.loop_name_rules (scene_of e p) (found (scene_of e somewhere) (view_name name)) None)) x
        → Stops (head_faults (scene_of e p) n (view_name name) low high) x
    start_stops x h =
        stops_more (nodes.loop_variable (scene_of e p) n (view_name name)).faults _ x
        (turns.variable_stops (scene_of e p) n (view_name name) x (rw (found_same e p (view_name name)) h))

    module _ (s : Start) (first : ℕ) (started : Starts (headings_in e) name.node (λ f. stmt_rules.loop_name_rules (scene_of e p) f None)
        (found (scene_of e somewhere) (view_name name)) n first (Ok s)) where
      -- the first bound breaks a rule
      pub low_stops : (x : Stop) → Stops (walk.judge_expr (scene_of e p) first low).faults x
          → Stops (head_faults (scene_of e p) n (view_name name) low high) x
      low_stops x h =
          stops_behind (nodes.loop_variable (scene_of e p) n (view_name name)).faults _ x
          (none_of _ _ _ (variable_is s started.2 started.3))
          (stops_more (walk.judge_expr (scene_of e p) (n + 2) low).faults _ x (rw started.1 at h))

      -- behind the second bound
      pub headed : (i next : ℕ) (start : Option parts.Typing) (r : Result Head Stop)
          → walk.judge_expr (scene_of e p) first low ≡ of_value i start
          → HeadOf s start (walk.judge_expr (scene_of e p) i high) next r → JudgesHead e p (view_name name) low high n next r
      headed i next start (Ok h) is t =
          let there = rw started.1 at is in
          record {
            counter = t.0 ∙ started.0;
            variable = variable_is s started.2 started.3 ∙ ap (λ f. of_value n (variable_of e f)) (sym t.1);
            low = as_next (walk.judge_expr (scene_of e p) (n + 2) low) i start (typing_in h.bounds.low) there t.2;
            high = ap (λ (j : Judgement parts.Typing). walk.judge_expr (scene_of e p) j.next high) there ∙ t.3;
          }
      headed i next start (Err x) is t =
          let there = rw started.1 at is in
          stops_behind (nodes.loop_variable (scene_of e p) n (view_name name)).faults _ x
          (none_of _ _ _ (variable_is s started.2 started.3))
          (stops_behind (walk.judge_expr (scene_of e p) (n + 2) low).faults _ x (none_of _ _ _ there)
          (subst (λ (j : Judgement parts.Typing). Stops (walk.judge_expr (scene_of e p) j.next high).faults x) (sym there) t))

-- the slots of a loop that starts have numbers
pub head_limit : (s : Start) (low : Option parts.Typing) (j : Judgement parts.Typing) (m : ℕ) (r : Result Head Stop) → HeadOf s low j m r
    → s.counter + 1 < 2 ^ 32 → IfOk r (λ h. h.counter + 1 < 2 ^ 32)
head_limit s low j m (Ok h) is l = rw is.0 l
head_limit s low j m (Err e) is l = tt

module _ (e : Env) (p : Place) (n k : ℕ) (name : Name) (low high : tree.Expr) where
  abbrev first_next : ℕ
  first_next = (walk.judge_expr (scene_of e p) (n + 2) low).next

  -- a head that stops is one of three parts that stops
  by_part : (P : Type 0) (x : Stop) → (Stops (nodes.loop_variable (scene_of e p) n (view_name name)).faults x → P)
      → ((v : Option parts.Location) → nodes.loop_variable (scene_of e p) n (view_name name) ≡ of_value
      (nodes.loop_variable (scene_of e p) n (view_name name)).next v → Stops (walk.judge_expr (scene_of e p) (n + 2) low).faults x → P)
      → ((v : Option parts.Location) (w : Option parts.Typing)
      → nodes.loop_variable (scene_of e p) n (view_name name) ≡ of_value (nodes.loop_variable (scene_of e p) n (view_name name)).next v
      → walk.judge_expr (scene_of e p) (n + 2) low ≡ of_value (walk.judge_expr (scene_of e p) (n + 2) low).next w
      → Stops (walk.judge_expr (scene_of e p) (walk.judge_expr (scene_of e p) (n + 2) low).next high).faults x → P)
      → Stops (head_faults (scene_of e p) n (view_name name) low high) x → P
  by_part P x f g h is =
      let var = nodes.loop_variable (scene_of e p) n (view_name name) in
      let start = walk.judge_expr (scene_of e p) (n + 2) low in
      first_of var.faults _ x P f (λ none rest. first_of start.faults _ x P (g var.value (whole_of var none))
      (λ nil last. h var.value start.value (whole_of var none) (whole_of start nil) last) rest) is

  -- FOR
  module _ (by : tree.By) (body : tree.Stmts) where
    pub for_head_stops : (x : Stop) → Stops (head_faults (scene_of e p) n (view_name name) low high) x
        → Stops (walk.judge_stmt (scene_of e p) n (tree.for_stmt k (view_name name) low high by body)).faults x
    for_head_stops x h =
        by_part (Stops (walk.judge_stmt (scene_of e p) n (tree.for_stmt k (view_name name) low high by body)).faults x) x
        (turns.for_name_stops (scene_of e p) n k (view_name name) low high by body x)
        (λ v is t. turns.for_low_stops (scene_of e p) n k (view_name name) low high by body x _ v is t)
        (λ v w is q t. turns.for_high_stops (scene_of e p) n k (view_name name) low high by body x _ _ v w is q t) h

    module _ (m : ℕ) (h : Head) (is : IsHead e p (view_name name) low high n m h) where
      pub for_by_stops : (x : Stop) → Stops (walk.judge_by (scene_of e p) m by).faults x
          → Stops (walk.judge_stmt (scene_of e p) n (tree.for_stmt k (view_name name) low high by body)).faults x
      for_by_stops x t =
          turns.for_by_stops (scene_of e p) n k (view_name name) low high by body x n _ m (variable_of e h.found) (typing_in h.bounds.low)
          (typing_in h.bounds.high) is.variable is.low is.high t

      pub for_joined : (t : Turns) (l u : ℕ) (r : Result (Option (Vec Stmt Global)) Stop)
          → typing_in t.low ≡ typing_in h.bounds.low → typing_in t.high ≡ typing_in h.bounds.high
          → walk.judge_by (scene_of e p) m by ≡ of_value l t.by
          → Answers (nodes.one (with ir.ForTo
          (nodes.loop_at (scene_of e somewhere) h.counter k (of_value n (variable_of e h.found)) (of_value first_next (typing_in t.low))
          (of_value m (typing_in t.high)) (of_value l t.by) (walk.judge_stmts (scene_of e p) l body)))) stmts_of u r
          → Answers (walk.judge_stmt (scene_of e p) n (tree.for_stmt k (view_name name) low high by body)) stmts_of u r
      for_joined t l u r tl th is_by a =
          turns.for_fine (scene_of e p) n k (view_name name) low high by body n first_next m l u (variable_of e h.found) (typing_in t.low)
          (typing_in t.high) t.by stmts_of r is.variable
          (is.low ∙ ap (of_value first_next) (sym tl)) (is.high ∙ ap (of_value m) (sym th)) is_by (rw is.counter at a)

  -- SOME
  module _ (body : tree.Stmts) where
    pub some_head_stops : (x : Stop) → Stops (head_faults (scene_of e p) n (view_name name) low high) x
        → Stops (walk.judge_stmt (scene_of e p) n (tree.some_stmt k (view_name name) low high body)).faults x
    some_head_stops x h =
        by_part (Stops (walk.judge_stmt (scene_of e p) n (tree.some_stmt k (view_name name) low high body)).faults x) x
        (turns.some_name_stops (scene_of e p) n k (view_name name) low high body x)
        (λ v is t. turns.some_low_stops (scene_of e p) n k (view_name name) low high body x _ v is t)
        (λ v w is q t. turns.some_high_stops (scene_of e p) n k (view_name name) low high body x _ _ v w is q t) h

    pub some_joined : (m u : ℕ) (h : Head) (r : Result (Option (Vec Stmt Global)) Stop) → IsHead e p (view_name name) low high n m h
        → Answers (nodes.one (with ir.SomeOf
        (nodes.loop_at (scene_of e somewhere) h.counter k (of_value n (variable_of e h.found))
        (of_value first_next (typing_in h.bounds.low)) (of_value m (typing_in h.bounds.high)) (fine m (pos 1))
        (walk.judge_stmts (scene_of e p) m body)))) stmts_of u r
        → Answers (walk.judge_stmt (scene_of e p) n (tree.some_stmt k (view_name name) low high body)) stmts_of u r
    some_joined m u h r is a =
        turns.some_fine (scene_of e p) n k (view_name name) low high body n first_next m u (variable_of e h.found) (typing_in h.bounds.low)
        (typing_in h.bounds.high) stmts_of r is.variable
        is.low is.high (rw is.counter at a)
