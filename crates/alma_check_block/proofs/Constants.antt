-- What is told of a constant.
use Rattle.std.proofs.Common.{◌≡◌, ℕ, List, [], Option, None, Some, Result, Ok, Err, refl, ap, ◌∙◌}
use Rattle.std.specs.Prelude.{option_map, IfOk}
use Rattle.alma_rules.specs.Judgement.{BrokenRule, Judgement}
use Rattle.alma_rules.specs.Numbered as tree
use Rattle.alma_rules.specs.Scene.{Scene, in_constant}
use Rattle.alma_rules.specs.Parts.{Typing}
use Rattle.alma_rules.specs.Answers.{first}
use Rattle.alma_rules.specs.Walk.{judge_expr}
use Rattle.alma_rules.specs.Types.{reading_then, reading_at, reading_change, reading_with, read_constant, subrange_rules, subrange_of}
use Rattle.alma_check_type.specs.Told.{Told, told, told_both, told_sub, bound_of, a_told}
use Rattle.alma_check_type.specs.declared.reading.Bound.{Bound}
use Rattle.alma_check_type.proofs.Tells.{told_as}
use Rattle.alma_check_type.proofs.SubSteps.{sub_told}
use Rattle.alma_check_block.proofs.Whole.{Whole, whole_gives, expr_whole}

pub constant_fine : (a s : Scene) (e : tree.Expr) (n : ℕ) (v : Option Typing) → a ≡ s
    → judge_expr (in_constant a) 0 e ≡ record { faults = []; next = n; value = v }
    → told (reading_with bound_of (read_constant s e)) ≡ a_told None s (option_map bound_of v)
constant_fine a s e n v same h = rw (← same, h) refl

constant_lost : (s : Scene) (j : Judgement Typing) (b : BrokenRule) → Whole j.faults j.value → first j.faults ≡ Some b
    → a_told (first j.faults) s (option_map bound_of j.value) ≡ a_told (Some b) s None
constant_lost s j b p h = told_as _ _ s _ _ h (go j.faults j.value p h)
  where
    go : (a : List BrokenRule) (v : Option Typing) → Whole a v → first a ≡ Some b → option_map bound_of v ≡ None
    go a None p h = refl
    go a (Some x) p h = absurd (let e : first a ≡ None = ap first (whole_gives a (Some x) p tt) in cc)

pub constant_stops : (a s : Scene) (e : tree.Expr) (b : BrokenRule) → a ≡ s → first (judge_expr (in_constant a) 0 e).faults ≡ Some b
    → told (reading_with bound_of (read_constant s e)) ≡ a_told (Some b) s None
constant_stops a s e b same h = rw (← same) (constant_lost a (judge_expr (in_constant a) 0 e) b (expr_whole (in_constant a) 0 e) h)

-- for tactics
pub ruleset constants = (constant_fine, constant_stops)

-- ---- calls that end with another

-- what the last call tells, said of the whole
pub ok_as : {A X E : Type 0} (a b : A) (f : X → A) (r : Result X E) → a ≡ b → IfOk r (λ x. b ≡ f x) → IfOk r (λ x. a ≡ f x)
ok_as a b f (Ok x) h e = h ∙ e
ok_as a b f (Err x) h e = tt

-- a subrange of its bounds
pub sub_by : (s : Scene) (n : ℕ) (low high : tree.Expr) (a b : Told Bound) → told (reading_with bound_of (read_constant s low)) ≡ a
    → told (reading_with bound_of (read_constant s high)) ≡ b
    → told (reading_change subrange_of (reading_at n (subrange_rules s) (reading_then (read_constant s low) (λ i. read_constant i high))))
    ≡ told_sub n (told_both a b)
sub_by s n low high a b h k =
    sub_told s n low high ∙ ap (λ x. told_sub n (told_both x (told (reading_with bound_of (read_constant s high))))) h
    ∙ ap (λ y. told_sub n (told_both a y)) k
