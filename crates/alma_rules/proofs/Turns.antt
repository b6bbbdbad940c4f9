-- What the walk says of FOR and SOME, as the code meets it.
use Rattle.std.proofs.Common.{◌≡◌, ℕ, ◌+◌, [], Option, None, Result, refl}
use Rattle.std.specs.Prelude.{ℤ, pos, option_and_then}
use Rattle.alma_ir.specs.Tree as ir
use Rattle.alma_rules.specs.declared.error.Stop.{Stop}
use Rattle.alma_rules.specs.Numbered as tree
use Rattle.alma_rules.specs.Judgement.{Judgement, fine, of_value, broken_at, with}
use Rattle.alma_rules.specs.Answers.{Stops, Answers}
use Rattle.alma_rules.specs.Scene.{Scene, found}
use Rattle.alma_rules.specs.Parts as parts
use Rattle.alma_rules.specs.StmtRules as stmt_rules
use Rattle.alma_rules.specs.Nodes as nodes
use Rattle.alma_rules.specs.Walk as walk
use Rattle.alma_rules.proofs.Judging.{stops_more}

module _ (s : Scene) where
  -- a loop variable whose name breaks no rule
  pub variable_fine : (n : ℕ) (name : tree.Name) → stmt_rules.loop_name_rules s (found s name) None ≡ []
      → nodes.loop_variable s n name ≡ of_value n (option_and_then parts.located_in (parts.denotation s (found s name)))
  variable_fine n name h = rw h refl

  pub variable_stops : (n : ℕ) (name : tree.Name) (x : Stop)
      → Stops (broken_at name.node (stmt_rules.loop_name_rules s (found s name) None)) x
      → Stops (nodes.loop_variable s n name).faults x
  variable_stops n name x h = h

  -- ---- the parts of a loop in order
  module _ (n k : ℕ) (var : Judgement parts.Location) (a b : Judgement parts.Typing) (c : Judgement ℤ) (d : Judgement ir.Stmts) where
    loop_var_stops : (x : Stop) → Stops var.faults x → Stops (nodes.loop_at s n k var a b c d).faults x
    loop_var_stops x h = stops_more _ _ x (stops_more var.faults _ x h)

    loop_low_stops : (x : Stop) (m : ℕ) (v : Option parts.Location) → var ≡ of_value m v → Stops a.faults x
        → Stops (nodes.loop_at s n k var a b c d).faults x
    loop_low_stops x m v p h = rw p (stops_more _ _ x (stops_more a.faults _ x h))

    loop_high_stops : (x : Stop) (m i : ℕ) (v : Option parts.Location) (w : Option parts.Typing) → var ≡ of_value m v → a ≡ of_value i w
        → Stops b.faults x
        → Stops (nodes.loop_at s n k var a b c d).faults x
    loop_high_stops x m i v w p q h = rw (p, q) (stops_more _ _ x (stops_more b.faults _ x h))

    loop_by_stops : (x : Stop) (m i j : ℕ) (v : Option parts.Location) (w u : Option parts.Typing) → var ≡ of_value m v → a ≡ of_value i w
        → b ≡ of_value j u → Stops c.faults x
        → Stops (nodes.loop_at s n k var a b c d).faults x
    loop_by_stops x m i j v w u p q t h = rw (p, q, t) (stops_more _ _ x (stops_more c.faults _ x h))

  -- ---- FOR
  module _ (n k : ℕ) (name : tree.Name) (low high : tree.Expr) (by : tree.By) (body : tree.Stmts) where
    abbrev for_low : Judgement parts.Typing
    for_low = walk.judge_expr s (n + 2) low

    abbrev for_high : Judgement parts.Typing
    for_high = walk.judge_expr s for_low.next high

    abbrev for_by : Judgement ℤ
    for_by = walk.judge_by s for_high.next by

    abbrev for_body : Judgement ir.Stmts
    for_body = walk.judge_stmts s for_by.next body

    for_at : walk.judge_stmt s n (tree.for_stmt k name low high by body)
        ≡ nodes.one (with ir.ForTo (nodes.loop_at s n k (nodes.loop_variable s n name) (walk.judge_expr s (n + 2) low)
        (walk.judge_expr s (walk.judge_expr s (n + 2) low).next high)
        (walk.judge_by s (walk.judge_expr s (walk.judge_expr s (n + 2) low).next high).next by)
        (walk.judge_stmts s (walk.judge_by s (walk.judge_expr s (walk.judge_expr s (n + 2) low).next high).next by).next body)))
    unfolding walk.judge_stmts
    for_at = refl

    pub for_name_stops : (x : Stop) → Stops (nodes.loop_variable s n name).faults x
        → Stops (walk.judge_stmt s n (tree.for_stmt k name low high by body)).faults x
    for_name_stops x h = rw for_at (loop_var_stops n k (nodes.loop_variable s n name) for_low for_high for_by for_body x h)

    pub for_low_stops : (x : Stop) (m : ℕ) (v : Option parts.Location) → nodes.loop_variable s n name ≡ of_value m v
        → Stops (walk.judge_expr s (n + 2) low).faults x
        → Stops (walk.judge_stmt s n (tree.for_stmt k name low high by body)).faults x
    for_low_stops x m v p h = rw for_at (loop_low_stops n k (nodes.loop_variable s n name) for_low for_high for_by for_body x m v p h)

    pub for_high_stops : (x : Stop) (m i : ℕ) (v : Option parts.Location) (w : Option parts.Typing)
        → nodes.loop_variable s n name ≡ of_value m v → walk.judge_expr s (n + 2) low ≡ of_value i w
        → Stops (walk.judge_expr s i high).faults x → Stops (walk.judge_stmt s n (tree.for_stmt k name low high by body)).faults x
    for_high_stops x m i v w p q h =
        rw for_at (loop_high_stops n k (nodes.loop_variable s n name) for_low for_high for_by for_body x m i v w p q (rw q h))

    pub for_by_stops : (x : Stop) (m i j : ℕ) (v : Option parts.Location) (w u : Option parts.Typing)
        → nodes.loop_variable s n name ≡ of_value m v → walk.judge_expr s (n + 2) low ≡ of_value i w
        → walk.judge_expr s i high ≡ of_value j u → Stops (walk.judge_by s j by).faults x
        → Stops (walk.judge_stmt s n (tree.for_stmt k name low high by body)).faults x
    for_by_stops x m i j v w u p q t h =
        rw for_at (loop_by_stops n k (nodes.loop_variable s n name) for_low for_high for_by for_body x m i j v w u p q (rw q t)
        (rw (q, t) h))

    pub for_fine : {X : Type 0} (m i j l e : ℕ) (v : Option parts.Location) (w u : Option parts.Typing) (z : Option ℤ) (view : X → ir.Stmts)
        (r : Result (Option X) Stop)
        → nodes.loop_variable s n name ≡ of_value m v → walk.judge_expr s (n + 2) low ≡ of_value i w
        → walk.judge_expr s i high ≡ of_value j u → walk.judge_by s j by ≡ of_value l z
        → Answers (nodes.one (with ir.ForTo
        (nodes.loop_at s n k (of_value m v) (of_value i w) (of_value j u) (of_value l z) (walk.judge_stmts s l body)))) view e r
        → Answers (walk.judge_stmt s n (tree.for_stmt k name low high by body)) view e r
    for_fine {X} m i j l e v w u z view r p q t y a =
        rw for_at (by_parts (nodes.loop_variable s n name) (walk.judge_expr s (n + 2) low) p q)
      where
        -- part by part
        by_parts : (var : Judgement parts.Location) (a1 : Judgement parts.Typing) → var ≡ of_value m v → a1 ≡ of_value i w
            → Answers (nodes.one (with ir.ForTo
            (nodes.loop_at s n k var a1 (walk.judge_expr s a1.next high) (walk.judge_by s (walk.judge_expr s a1.next high).next by)
            (walk.judge_stmts s (walk.judge_by s (walk.judge_expr s a1.next high).next by).next body)))) view e r
        by_parts var a1 p1 q1 = rw (p1, q1, t, y) a

  -- ---- SOME
  module _ (n k : ℕ) (name : tree.Name) (low high : tree.Expr) (body : tree.Stmts) where
    abbrev some_low : Judgement parts.Typing
    some_low = walk.judge_expr s (n + 2) low

    abbrev some_high : Judgement parts.Typing
    some_high = walk.judge_expr s some_low.next high

    abbrev some_body : Judgement ir.Stmts
    some_body = walk.judge_stmts s some_high.next body

    some_at : walk.judge_stmt s n (tree.some_stmt k name low high body)
        ≡ nodes.one (with ir.SomeOf (nodes.loop_at s n k (nodes.loop_variable s n name) (walk.judge_expr s (n + 2) low)
        (walk.judge_expr s (walk.judge_expr s (n + 2) low).next high)
        (fine (walk.judge_expr s (walk.judge_expr s (n + 2) low).next high).next (pos 1))
        (walk.judge_stmts s (walk.judge_expr s (walk.judge_expr s (n + 2) low).next high).next body)))
    unfolding walk.judge_stmts
    some_at = refl

    pub some_name_stops : (x : Stop) → Stops (nodes.loop_variable s n name).faults x
        → Stops (walk.judge_stmt s n (tree.some_stmt k name low high body)).faults x
    some_name_stops x h = rw some_at (loop_var_stops n k (nodes.loop_variable s n name) some_low some_high (fine some_high.next (pos 1))
        some_body x h)

    pub some_low_stops : (x : Stop) (m : ℕ) (v : Option parts.Location) → nodes.loop_variable s n name ≡ of_value m v
        → Stops (walk.judge_expr s (n + 2) low).faults x
        → Stops (walk.judge_stmt s n (tree.some_stmt k name low high body)).faults x
    some_low_stops x m v p h = rw some_at (loop_low_stops n k (nodes.loop_variable s n name) some_low some_high
        (fine some_high.next (pos 1)) some_body x m v p h)

    pub some_high_stops : (x : Stop) (m i : ℕ) (v : Option parts.Location) (w : Option parts.Typing)
        → nodes.loop_variable s n name ≡ of_value m v → walk.judge_expr s (n + 2) low ≡ of_value i w
        → Stops (walk.judge_expr s i high).faults x → Stops (walk.judge_stmt s n (tree.some_stmt k name low high body)).faults x
    some_high_stops x m i v w p q h =
        rw some_at (loop_high_stops n k (nodes.loop_variable s n name) some_low some_high (fine some_high.next (pos 1)) some_body x m i v w
        p q (rw q h))

    pub some_fine : {X : Type 0} (m i j e : ℕ) (v : Option parts.Location) (w u : Option parts.Typing) (view : X → ir.Stmts)
        (r : Result (Option X) Stop)
        → nodes.loop_variable s n name ≡ of_value m v → walk.judge_expr s (n + 2) low ≡ of_value i w
        → walk.judge_expr s i high ≡ of_value j u
        → Answers (nodes.one (with ir.SomeOf
        (nodes.loop_at s n k (of_value m v) (of_value i w) (of_value j u) (fine j (pos 1)) (walk.judge_stmts s j body)))) view e r
        → Answers (walk.judge_stmt s n (tree.some_stmt k name low high body)) view e r
    some_fine {X} m i j e v w u view r p q t a = rw some_at (by_parts (nodes.loop_variable s n name) (walk.judge_expr s (n + 2) low) p q)
      where
        by_parts : (var : Judgement parts.Location) (a1 : Judgement parts.Typing) → var ≡ of_value m v → a1 ≡ of_value i w
            → Answers (nodes.one (with ir.SomeOf
            (nodes.loop_at s n k var a1 (walk.judge_expr s a1.next high) (fine (walk.judge_expr s a1.next high).next (pos 1))
            (walk.judge_stmts s (walk.judge_expr s a1.next high).next body)))) view e r
        by_parts var a1 p1 q1 = rw (p1, q1, t) a
