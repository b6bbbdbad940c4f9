-- What calls that read declarations tell: the first broken rule of a phrase, what it leaves behind, and its value.
use Rattle.std.specs.Global.{Global}
use Rattle.std.specs.Prelude.{◌≡◌, ℕ, List, [], ◌∷◌, ◌++◌, Option, None, Some, option_map, length, map, Vec, nat_eq, not, ◌&&◌}
use Rattle.alma_base.specs.declared.fault.CheckFault.{CheckFault}
use Rattle.alma_base.specs.declared.fault.CheckFault.TheVariants as fault
use Rattle.alma_names.specs.Scopes.{Blocks, entry_count}
use Rattle.alma_rules.specs.Judgement.{BrokenRule, both_of, broken_at, unless, when}
use Rattle.alma_rules.specs.Scene.{Scene, base}
use Rattle.alma_rules.specs.Parts.{Typing}
use Rattle.alma_rules.specs.StmtRules.{is_above}
use Rattle.alma_rules.specs.Answers.{first}
use Rattle.alma_rules.specs.Types.{Reading, ShapeOrLimit as RuleFormed, formed, too_large, number_in, index_type_rules, size_rules, rows_of}
use Rattle.alma_rules.specs.Types.{subrange_from}
use Rattle.alma_check_type.specs.declared.reading.BrokenRule.{BrokenRule as CodeBroken}
use Rattle.alma_check_type.specs.declared.reading.Reading.{Reading as CodeReading}
use Rattle.alma_check_type.specs.declared.reading.ShapeOrLimit.{ShapeOrLimit}
use Rattle.alma_check_type.specs.declared.reading.ShapeOrLimit.TheVariants as formeds
use Rattle.alma_check_type.specs.declared.reading.Bound.{Bound}

-- what is told of a phrase: its first broken rule, the scene behind it, and its value, None where it is Bad
pub record Told (A : Type 0) : Type 0 where
  pub fault : Option BrokenRule
  pub scene : Scene
  pub value : Option A

-- what is told of a reading of the rules: the first of its broken rules, scene and value
abbrev pub told : {A : Type 0} → Reading A → Told A
told r = record { fault = first r.faults; scene = r.scene; value = r.value }

-- the same from its parts
abbrev pub a_told : {A : Type 0} → Option BrokenRule → Scene → Option A → Told A
a_told f s v = record { fault = f; scene = s; value = v }

-- the broken rule that one of the code stands for
abbrev pub broken_of : CodeBroken → BrokenRule
broken_of b = record { node = b.node; fault = b.fault }

-- the broken rule that one of the code stands for, where there is one
abbrev pub fault_of : Option CodeBroken → Option BrokenRule
fault_of b = option_map broken_of b

-- what a call tells, with the scene that it leaves
abbrev pub tells_of : {X A : Type 0} → (X → A) → CodeReading X → Scene → Told A
tells_of view r s = record { fault = fault_of r.fault; scene = s; value = option_map view r.value }

-- the same of a value that stands for itself
abbrev pub tells : {A : Type 0} → CodeReading A → Scene → Told A
tells r s = record { fault = fault_of r.fault; scene = s; value = r.value }

-- of two broken rules the earlier one
abbrev pub earlier : Option BrokenRule → Option BrokenRule → Option BrokenRule
earlier None b = b
earlier (Some a) b = Some a

-- a node: its rules behind those of its parts, and its value where it breaks none of its own
abbrev pub told_at : {A : Type 0} → ℕ → (Option A → List CheckFault) → Told A → Told A
told_at n rules t = record {
  fault = earlier t.fault (first (broken_at n (rules t.value)));
  scene = t.scene;
  value =
      unless (rules t.value) t.value;
}

-- two phrases: the earlier broken rule, the scene behind the second, and both values
abbrev pub told_both : {A B : Type 0} → Told A → Told B → Told (A × B)
told_both a b = record { fault = earlier a.fault b.fault; scene = b.scene; value = both_of a.value b.value }

-- a phrase, with a value made of its own
abbrev pub told_with : {A B : Type 0} → (A → B) → Told A → Told B
told_with f t = record { fault = t.fault; scene = t.scene; value = option_map f t.value }

-- a value with the scene that it changes; where it is Bad the scene stays as it is
abbrev pub told_changed : {B : Type 0} → Option BrokenRule → Scene → Option (Scene × B) → Told B
told_changed fault s None = record { fault = fault; scene = s; value = None }
told_changed fault s (Some p) = record { fault = fault; scene = p.0; value = Some p.1 }

-- a phrase, with a value made of its own that changes the scene
abbrev pub told_change : {A B : Type 0} → (Scene → A → Scene × B) → Told A → Told B
told_change f t = told_changed t.fault t.scene (option_map (f t.scene) t.value)

-- a shape of the table, or one past a limit
abbrev pub formed_of : ShapeOrLimit → RuleFormed
formed_of (formeds.Shape shape) = formed shape
formed_of formeds.TooLarge = too_large

-- the shape and the value of a constant
abbrev pub bound_of : Typing → Bound
bound_of t = record { shape = t.shape; constant = t.constant }

-- ---- lists that grow

-- values behind others
abbrev pub join : {A : Type 0} → List A × List A → List A
join p = p.0 ++ p.1

-- what is told of a list, behind a part of it that is read
abbrev pub onward : {A : Type 0} → Option BrokenRule → Option (List A) → Told (List A) → Told (List A)
onward fault value t = record { fault = earlier fault t.fault; scene = t.scene; value = option_map join (both_of value t.value) }

-- the numbers in a vector
abbrev pub items_of : Vec ℕ Global → List ℕ
items_of v = v.items

-- the numbers in a vector, where none is Bad
abbrev pub items_in : Option (Vec ℕ Global) → Option (List ℕ)
items_in v = option_map items_of v

-- ---- types

-- the number of an index type alone
abbrev pub alone : RuleFormed → List ℕ
alone f = number_in f ∷ []

-- an index type, by its number
abbrev pub told_number : ℕ → Told RuleFormed → Told ℕ
told_number n t = told_with number_in (told_at n (index_type_rules t.scene) t)

-- an index type, as the list of its number alone
abbrev pub told_index : ℕ → Told RuleFormed → Told (List ℕ)
told_index n t = told_with alone (told_at n (index_type_rules t.scene) t)

-- a type, of its indices and its element
abbrev pub told_type : ℕ → Told (List ℕ × RuleFormed) → Told ℕ
told_type n t = told_with number_in (told_at n size_rules (told_change rows_of t))

-- the rules that a subrange breaks: ends of different bases, or the low one above the high one
abbrev pub pair_rules : Scene → Bound × Bound → List CheckFault
pair_rules s p =
    when (not (nat_eq (base s p.0.shape) (base s p.1.shape))) fault.TypeMismatch
    ++ when (nat_eq (base s p.0.shape) (base s p.1.shape) && is_above p.0.constant p.1.constant) fault.ConstRange

-- the first of some rules
abbrev pub first_rule : List CheckFault → Option CheckFault
first_rule [] = None
first_rule (f ∷ fs) = Some f

-- the same where an end may be Bad, and then it breaks none
abbrev pub bounds_rules : Scene → Option (Bound × Bound) → List CheckFault
bounds_rules s None = []
bounds_rules s (Some p) = pair_rules s p

-- the scene with the subrange of two ends, and its shape, unless it is past a limit
abbrev pub sub_of : Scene → Bound × Bound → Scene × RuleFormed
sub_of s p = subrange_from s (base s p.0.shape) p.0.constant p.1.constant

-- a subrange: the rules of its ends, and its shape
abbrev pub told_sub : ℕ → Told (Bound × Bound) → Told RuleFormed
told_sub n t = told_change sub_of (told_at n (bounds_rules t.scene) t)

-- ---- the names of all blocks, counted

-- the number of names in each block below the top one, in the top one, and in all
pub record IsCounted (below : List ℕ) (top all : ℕ) (s : Blocks) : Type 0 where
  pub counts : map length s.below ≡ below
  pub highest : top ≡ length s.top
  pub sum : all ≡ entry_count s
