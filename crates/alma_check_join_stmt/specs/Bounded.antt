-- What parts of a loop are, of which more come behind.
use Rattle.std.specs.Prelude.{◌≡◌, ℕ, ◌+◌, ℤ, List, [], ◌++◌, Option, option_and_then, Result, Ok, Err}
use Rattle.alma_base.specs.declared.fault.CheckFault.{CheckFault}
use Rattle.alma_rules.specs.declared.error.Stop.{Stop}
use Rattle.alma_rules.specs.declared.error.Stop.TheVariants.{Memory}
use Rattle.alma_rules.specs.Numbered as tree
use Rattle.alma_rules.specs.Judgement.{BrokenRule, Judgement, of_value, broken_at}
use Rattle.alma_rules.specs.Scene.{Scene, Heading, Found as RuleFound}
use Rattle.alma_rules.specs.Parts as parts
use Rattle.alma_rules.specs.Nodes as nodes
use Rattle.alma_rules.specs.Walk.{judge_expr}
use Rattle.alma_rules.specs.Answers.{Stops}
use Rattle.alma_check_rules.specs.declared.env.Env.{Env}
use Rattle.alma_check_rules.specs.declared.env.Place.{Place}
use Rattle.alma_check_rules.specs.declared.env.Found.{Found}
use Rattle.alma_check_rules.specs.Views.{scene_of, somewhere, headings_in, found_view, typing_in}
use Rattle.alma_check_join_stmt.specs.declared.turns.Start.{Start}
use Rattle.alma_check_join_stmt.specs.declared.turns.Head.{Head}
use Rattle.alma_check_join_stmt.specs.declared.turns.Bounds.{Bounds}
use Rattle.alma_check_join_stmt.specs.declared.turns.Turns.{Turns}

-- a name stands for this, and breaks no rule; or the first broken rule is named
abbrev pub Finds : List (Option Heading) → ℕ → (RuleFound → List CheckFault) → RuleFound → Result Found Stop → Type 0
Finds hs n rules x (Ok f) = (found_view hs f ≡ x) × (rules x ≡ [])
Finds hs n rules x (Err e) = Stops (broken_at n (rules x)) e

-- a loop takes two slots
abbrev pub TakesLoop : (old new : ℕ) → Result ℕ Stop → Type 0
TakesLoop old new (Ok n) = (n ≡ old) × (new ≡ old + 2)
TakesLoop old new (Err e) = e ≡ Memory

-- a loop starts with two slots and a name that breaks no rule; or the first broken rule is named
abbrev pub Starts : List (Option Heading) → ℕ → (RuleFound → List CheckFault) → RuleFound → (old new : ℕ) → Result Start Stop → Type 0
Starts hs n rules x old new (Ok s) = (s.counter ≡ old) × (new ≡ old + 2) × (found_view hs s.found ≡ x) × (rules x ≡ [])
Starts hs n rules x old new (Err e) = Stops (broken_at n (rules x)) e

-- what a loop starts with, its first bound, and the second, which is judged
abbrev pub HeadOf : Start → Option parts.Typing → Judgement parts.Typing → ℕ → Result Head Stop → Type 0
HeadOf s low j m (Ok h) = (h.counter ≡ s.counter) × (h.found ≡ s.found) × (typing_in h.bounds.low ≡ low)
    × (j ≡ of_value m (typing_in h.bounds.high))
HeadOf s low j m (Err e) = Stops j.faults e

-- the variable of a loop, by what its name stands for
abbrev pub variable_of : Env → Found → Option parts.Location
variable_of e f = option_and_then parts.located_in (parts.denotation (scene_of e somewhere) (found_view (headings_in e) f))

-- the head of a loop at the slot `n`, in which no rule is broken; the slot behind it is `next`
pub record IsHead (e : Env) (p : Place) (name : tree.Name) (first second : tree.Expr) (n next : ℕ) (h : Head) : Type 0 where
  pub counter : h.counter ≡ n
  pub variable : nodes.loop_variable (scene_of e p) n name ≡ of_value n (variable_of e h.found)
  pub low : judge_expr (scene_of e p) (n + 2) first ≡ of_value (judge_expr (scene_of e p) (n + 2) first).next (typing_in h.bounds.low)
  pub high : judge_expr (scene_of e p) (judge_expr (scene_of e p) (n + 2) first).next second ≡ of_value next (typing_in h.bounds.high)

-- the rules that are broken in the head of a loop: of its name, its first bound and its second
abbrev pub head_faults : Scene → ℕ → tree.Name → (first second : tree.Expr) → List BrokenRule
head_faults s n name first second =
    (nodes.loop_variable s n name).faults ++ ((judge_expr s (n + 2) first).faults
    ++ (judge_expr s (judge_expr s (n + 2) first).next second).faults)

-- the head of a loop is judged
abbrev pub JudgesHead : Env → Place → tree.Name → (first second : tree.Expr) → (n next : ℕ) → Result Head Stop → Type 0
JudgesHead e p name first second n next (Ok h) = IsHead e p name first second n next h
JudgesHead e p name first second n next (Err x) = Stops (head_faults (scene_of e p) n name first second) x

-- the bounds of a loop, and the step, which is judged
abbrev pub JudgesTurns : Bounds → Judgement ℤ → ℕ → Result Turns Stop → Type 0
JudgesTurns b j m (Ok t) = (typing_in t.low ≡ typing_in b.low) × (typing_in t.high ≡ typing_in b.high) × (j ≡ of_value m t.by)
JudgesTurns b j m (Err e) = Stops j.faults e
