-- What is said of a phrase: the rules that are broken at its nodes, the slots that its loops take, and what it stands for.
use Rattle.std.specs.Prelude.{ℕ, Bool, true, false, ◌||◌, ◌&&◌, if◌then◌else◌, nat_lt, nat_eq, List, [], ◌∷◌, ◌++◌, Option, None, Some}
use Rattle.std.specs.Prelude.{option_map, option_and_then}
use Rattle.alma_base.specs.declared.fault.CheckFault.{CheckFault}
use Rattle.alma_base.specs.declared.fault.CheckFault.TheVariants as fault

-- a rule that is broken at a node
pub record BrokenRule : Type 0 where
  pub node : ℕ
  pub fault : CheckFault

-- the rules broken at and below a node; the next free hidden slot behind it; its value, which is Bad (None) where a rule is
-- broken at or below the node, or a name in use there is Bad
pub record Judgement (A : Type 0) : Type 0 where
  pub faults : List BrokenRule
  pub next : ℕ
  pub value : Option A

-- what breaks no rule and takes no slot
abbrev pub of_value : {A : Type 0} → ℕ → Option A → Judgement A
of_value next v = record { faults = []; next = next; value = v }

-- the same, of a value that is not Bad
abbrev pub fine : {A : Type 0} → ℕ → A → Judgement A
fine next x = of_value next (Some x)

-- the value of a node at which rules are broken
abbrev pub unless : {A : Type 0} → List CheckFault → Option A → Option A
unless [] v = v
unless (f ∷ fs) v = None

-- these rules, broken at one node
abbrev pub broken_at : ℕ → List CheckFault → List BrokenRule
broken_at n [] = []
broken_at n (f ∷ fs) = record { node = n; fault = f } ∷ broken_at n fs

-- the rules of a node, asked of the value that its parts give
abbrev pub at_node : {A : Type 0} → ℕ → (Option A → List CheckFault) → Judgement A → Judgement A
at_node n rules j =
    record { faults = j.faults ++ broken_at n (rules j.value); next = j.next; value = unless (rules j.value) j.value }

-- two values, where neither is Bad
abbrev pub both_of : {A B : Type 0} → Option A → Option B → Option (A × B)
both_of (Some x) (Some y) = Some (x, y)
both_of (Some x) None = None
both_of None y = None

-- two parts, each judged whatever is broken in the other
abbrev pub both : {A B : Type 0} → Judgement A → Judgement B → Judgement (A × B)
both a b = record { faults = a.faults ++ b.faults; next = b.next; value = both_of a.value b.value }

-- a part and then another, whose loops take the slots behind those of the first
abbrev pub and_then : {A B : Type 0} → Judgement A → (ℕ → Judgement B) → Judgement (A × B)
and_then a f = both a (f a.next)

-- a value where none of these rules is broken
abbrev pub if_unbroken : {A : Type 0} → List BrokenRule → Option A → Option A
if_unbroken [] v = v
if_unbroken (b ∷ bs) v = None

-- what follows on something that is computed once
abbrev pub after : {A B : Type 0} → A → (A → B) → B
after x f = f x

-- what a function makes of the value
abbrev pub with : {A B : Type 0} → (A → B) → Judgement A → Judgement B
with f j = record { faults = j.faults; next = j.next; value = option_map f j.value }

-- with a value that there may not be
abbrev pub with_some : {A B : Type 0} → (A → Option B) → Judgement A → Judgement B
with_some f j = record { faults = j.faults; next = j.next; value = option_and_then f j.value }

-- a fault where the test holds
abbrev pub when : Bool → CheckFault → List CheckFault
when true f = f ∷ []
when false f = []

-- the test holds of the value, which is not Bad
abbrev pub holds : {A : Type 0} → (A → Bool) → Option A → Bool
holds test None = false
holds test (Some x) = test x

-- ---- the least of the broken rules

-- the place of a fault in the order of CheckFault
abbrev pub rank : CheckFault → ℕ
rank fault.Undeclared = 0
rank fault.Redeclared = 1
rank fault.NameMismatch = 2
rank fault.NotType = 3
rank fault.NotConst = 4
rank fault.NotVariable = 5
rank fault.NotProcedure = 6
rank fault.NotTest = 7
rank fault.TypeMismatch = 8
rank fault.ArgCount = 9
rank fault.NotDesignator = 10
rank fault.ModeType = 11
rank fault.IndexType = 12
rank fault.NotArray = 13
rank fault.NotRecord = 14
rank fault.NoField = 15
rank fault.ConstRange = 16
rank fault.LabelTwice = 17
rank fault.ReturnForm = 18
rank fault.JumpOut = 19
rank fault.NestedProcedure = 20
rank fault.BadWrite = 21
rank fault.BadRead = 22
rank fault.TooLarge = 23

-- by node in post-order, and then by the order of CheckFault
abbrev pub is_before : BrokenRule → BrokenRule → Bool
is_before a b = nat_lt a.node b.node || (nat_eq a.node b.node && nat_lt (rank a.fault) (rank b.fault))

-- the lesser of a broken rule and one that there may not be
abbrev pub lesser : BrokenRule → Option BrokenRule → BrokenRule
lesser a None = a
lesser a (Some b) = if is_before b a then b else a

-- the lesser of two that there may not be
abbrev pub better : Option BrokenRule → Option BrokenRule → Option BrokenRule
better None b = b
better (Some a) b = Some (lesser a b)

-- the least of the broken rules, if there is one
abbrev pub least : List BrokenRule → Option BrokenRule
least [] = None
least (b ∷ bs) = Some (lesser b (least bs))
