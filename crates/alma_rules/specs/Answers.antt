-- What the calls that check show.
use Rattle.std.specs.Prelude.{◌≡◌, ℕ, ℤ, Bool, nat_eq, List, [], ◌∷◌, Option, None, Some, option_map}
use Rattle.std.specs.Prelude.{option_and_then, Result, Ok, Err}
use Rattle.alma_base.specs.declared.fault.CheckFault.{CheckFault}
use Rattle.alma_scan.specs.Tokens.{Lexeme}
use Rattle.alma_names.specs.Shapes.{PlainShape, base_at}
use Rattle.alma_ir.specs.Tree as ir
use Rattle.alma_rules.specs.declared.error.Stop.{Stop}
use Rattle.alma_rules.specs.declared.error.Stop.TheVariants as stop
use Rattle.alma_rules.specs.declared.error.CheckError.{CheckError}
use Rattle.alma_rules.specs.declared.error.CheckError.TheVariants as error
use Rattle.alma_rules.specs.Numbered as tree
use Rattle.alma_rules.specs.Judgement.{BrokenRule, Judgement, broken_at}
use Rattle.alma_rules.specs.Scene.{Scene, in_constant}
use Rattle.alma_rules.specs.Parts.{Typing}
use Rattle.alma_rules.specs.Walk.{judge_expr}
use Rattle.alma_rules.specs.Places.{Mark, node_token, mark_expr, mark_type}
use Rattle.alma_rules.specs.Types.{Reading, read_type}
use Rattle.alma_rules.specs.Modules.{broken_rules, resolution, check_fault, first_token_of}

-- ---- calls inside the walk, which stop at the first broken rule

-- the first of the broken rules, if there is one
abbrev pub first : List BrokenRule → Option BrokenRule
first [] = None
first (b ∷ bs) = Some b

-- the call names the first of the broken rules, at its node; want of memory is free
abbrev pub Stops : List BrokenRule → Stop → Type 0
Stops faults (stop.Fault f n) = first faults ≡ Some (record { node = n; fault = f })
Stops faults stop.Memory = Unit {0}

-- a phrase is judged: no rule is broken, and the next free slot and the value are these (None: a name in use is Bad); or the first
-- broken rule is named
abbrev pub Answers : {A X : Type 0} → Judgement A → (X → A) → (next : ℕ) → Result (Option X) Stop → Type 0
Answers j view next (Ok v) = j ≡ record { faults = []; next = next; value = option_map view v }
Answers j view next (Err e) = Stops j.faults e

-- the rules of one node are asked
abbrev pub Passes : ℕ → List CheckFault → Result (Unit {0}) Stop → Type 0
Passes n rules (Ok u) = rules ≡ []
Passes n rules (Err e) = Stops (broken_at n rules) e

-- ---- const_value, shape_of and fits

-- the fault is the first that is broken, at its node, with the first token of that node
abbrev pub IsFirst : List BrokenRule → List Mark → CheckFault → (node token : ℕ) → Type 0
IsFirst faults marks f n t = (first faults ≡ Some (record { node = n; fault = f })) × (node_token n marks ≡ t)

-- the shape and the value of a constant
abbrev pub constant_pair : Typing → Option (ℕ × ℤ)
constant_pair t = option_map (λ v. (t.shape, v)) t.constant

-- the constant, if the expression has a value, where no rule is broken; else the first broken rule; want of memory is free
abbrev pub GivesConstant : Judgement Typing → List Mark → Result (Option (ℕ × ℤ)) CheckError → Type 0
GivesConstant j marks (Ok v) = (j.faults ≡ []) × (option_and_then constant_pair j.value ≡ v)
GivesConstant j marks (Err (error.Fault f n t)) = IsFirst j.faults marks f n t
GivesConstant j marks (Err error.Memory) = Unit {0}

-- `const_value` of an expression that begins at a token
abbrev pub IsConstValue : Scene → tree.Expr → (at : ℕ) → Result (Option (ℕ × ℤ)) CheckError → Type 0
IsConstValue s e at result = GivesConstant (judge_expr (in_constant s) 0 e) (mark_expr e at).marks result

-- the shape (None: Bad) where no rule is broken, else the first broken rule, and the scene; want of memory is free
abbrev pub GivesShape : Reading ℕ → List Mark → (after : Scene) → Result (Option ℕ) CheckError → Type 0
GivesShape r marks after (Ok v) = (r.faults ≡ []) × (r.value ≡ v) × (r.scene ≡ after)
GivesShape r marks after (Err (error.Fault f n t)) = IsFirst r.faults marks f n t × (r.scene ≡ after)
GivesShape r marks after (Err error.Memory) = Unit {0}

-- `shape_of` of a type expression that begins at a token, with the scene that it leaves
abbrev pub IsShapeOf : Scene → (after : Scene) → tree.TypeNode → (at : ℕ) → Result (Option ℕ) CheckError → Type 0
IsShapeOf s after node at result = GivesShape (read_type s node) (mark_type node at).marks after result

-- `fits`: the two types are compatible
abbrev pub fits : List PlainShape → ℕ → ℕ → Bool
fits t from to = nat_eq (base_at t from) (base_at t to)

-- ---- check

-- the resolved program exactly where no rule is broken, and else the least of the broken rules, with the first token of its node
abbrev pub Resolves : {X : Type 0} → (source : List ℕ) → List Lexeme → tree.Module → (X → ir.Program) → Result X CheckError → Type 0
Resolves source tokens m view (Ok p) = (broken_rules source tokens m ≡ []) × (resolution source tokens m ≡ Some (view p))
Resolves source tokens m view (Err (error.Fault f n t)) =
    (check_fault source tokens m ≡ Some (record { node = n; fault = f })) × (first_token_of m n ≡ t)
Resolves source tokens m view (Err error.Memory) = Unit {0}
