-- The procedures of level 1 that stay, by name.
use Rattle.std.specs.Prelude.{◌≡◌, ℕ, suc, ◌+◌, Bool, ◌&&◌, nat_eq, List, [], ◌∷◌, ◌++◌, length, map, Option, None, Some, Vec}
use Rattle.std.specs.Cmp.Lexicographic.{pointwise}
use Rattle.std.specs.Global.{Global}
use Rattle.indexmap.specs.IndexMap.{IndexMap, get}
use Rattle.alma_base.specs.Choice.{if_true}
use Rattle.alma_ir.specs.Tree.{Routine}
use Rattle.alma_ir.specs.View.{routine_of}
use Rattle.alma_join.specs.Joined.{Kept, same_name}
use Rattle.alma_join.specs.declared.directory.Export.{Export}
use Rattle.alma_join.specs.declared.directory.Directory.{Directory}
use Rattle.alma_join.specs.declared.directory.Matches.{Matches}
use Rattle.alma_join.specs.declared.directory.Matches.TheVariants as answer

-- a procedure of level 1 that stays: its unit, its new number and itself
pub record PlainExport : Type 0 where
  pub unit : ℕ
  pub number : ℕ
  pub routine : Routine

-- the export that a value stands for
abbrev pub plain_export : Export → PlainExport
plain_export e = record { unit = e.unit; number = e.number; routine = routine_of e.routine.now }

-- those of this name, where the first of the list has the number `at`
abbrev pub exports_named : List Kept → (at : ℕ) → (name : List ℕ) → List PlainExport
exports_named [] at name = []
exports_named (k ∷ rest) at name =
    if_true (nat_eq k.routine.level 1 && same_name k.routine.name name)
    (λ _. record { unit = k.unit; number = at; routine = k.routine } ∷ exports_named rest (suc at) name)
    (λ _. exports_named rest (suc at) name)

-- the entries that a look-up gives
abbrev pub entries_in : Option (Vec Export Global) → List PlainExport
entries_in None = []
entries_in (Some v) = map plain_export v.items

-- two names in memory are alike
abbrev pub alike : Vec ℕ Global → Vec ℕ Global → Bool
alike x y = pointwise nat_eq x.items y.items

-- under each name the map has what shares it
pub record Lists {S : Type 0} (entries : IndexMap (Vec ℕ Global) (Vec Export Global) S) (all : List Kept) : Type 0 where
  pub named : (q : Vec ℕ Global) → entries_in (get alike entries q) ≡ exports_named all 1 q.items

-- the directory is that of these
pub record Holds (d : Directory) (all : List Kept) : Type 0 where
  pub next : d.next ≡ 1 + length all
  pub lists : Lists d.entries all

-- the directory b is a with these behind
pub record Enters (a b : Directory) (more : List Kept) : Type 0 where
  pub next : b.next ≡ length more + a.next
  pub holds : (all : List Kept) → Holds a all → Holds b (all ++ more)

-- one more routine of a unit
pub record EntersOne (a b : Directory) (unit : ℕ) (routine : Routine) : Type 0 where
  pub enters : (r : ℕ) → Enters a b (record { unit = unit; number = r; routine = routine } ∷ [])

-- those of other units, as matches
abbrev pub others : (unit : ℕ) → List PlainExport → List (ℕ × Routine)
others unit [] = []
others unit (e ∷ rest) = if_true (nat_eq e.unit unit) (λ _. others unit rest) (λ _. (e.number, e.routine) ∷ others unit rest)

-- there are two matches at least
abbrev pub AreMany : List (ℕ × Routine) → Type 0
AreMany [] = ⊥
AreMany (m ∷ []) = ⊥
AreMany (m ∷ (m2 ∷ rest)) = Unit {0}

-- the answer tells these matches: that there is none, the only one, or that there are two at least
abbrev pub IsAnswer : Matches → List (ℕ × Routine) → Type 0
IsAnswer answer.None all = all ≡ []
IsAnswer (answer.One e) all = all ≡ (e.number, routine_of e.routine.now) ∷ []
IsAnswer answer.Many all = AreMany all
