-- New numbers, as tables.
use Rattle.std.specs.Prelude.{◌≡◌, ℕ, suc, ◌+◌, ◌<◌, List, [], ◌∷◌, ◌++◌, length, drop, Option, None, Result, Vec, IfOk, IfErr}
use Rattle.std.specs.Global.{Global}
use Rattle.std.specs.List.{AllByRecursion}
use Rattle.alma_copy.specs.Numbers.{number_in}
use Rattle.alma_ir.specs.Tree.{Routine, Program}
use Rattle.alma_join.specs.Joined.{Kept, JoinFault, kept_of, first_match, match_fault, fault_from, new_number}
use Rattle.alma_join.specs.declared.error.JoinError.{JoinError}
use Rattle.alma_join.specs.Fault.{IsErrorOf}

-- an import with these matches has this number, or this fault
pub record Resolves (unit r : ℕ) (routine : Routine) (found : List (ℕ × Routine)) (result : Result ℕ JoinError) : Type 0 where
  pub number : IfOk result (λ n. (n ≡ first_match found) × (match_fault unit r routine found ≡ None))
  pub fault : IfErr result (λ e. IsErrorOf e (match_fault unit r routine found))

-- the routines of this unit that stay are numbered from `next` on among all
pub record StandsAt (all : List Kept) (unit : ℕ) (p : Program) (next : ℕ) : Type 0 where
  pub front : List Kept
  pub behind : List Kept
  pub split : all ≡ front ++ (kept_of unit p ++ behind)
  pub others_front : AllByRecursion (λ k. k.unit < unit) front
  pub others_behind : AllByRecursion (λ k. unit < k.unit) behind
  pub number : next ≡ 1 + length front

-- the first fault of an import of a unit
abbrev pub unit_fault : List Kept → (unit : ℕ) → Program → Option JoinFault
unit_fault all unit p = fault_from all unit p 1 (drop 1 p.routines)

-- a table has the new number of each routine of a unit
pub record NumbersUnit (all : List Kept) (unit : ℕ) (p : Program) (table : List ℕ) : Type 0 where
  pub at : (r : ℕ) → number_in table r ≡ new_number all unit p r

-- the tables have those of all units
abbrev pub NumbersUnits : List Kept → (unit : ℕ) → List Program → List (List ℕ) → Type 0
NumbersUnits all unit [] [] = Unit {0}
NumbersUnits all unit [] (table ∷ tables) = ⊥
NumbersUnits all unit (p ∷ ps) [] = ⊥
NumbersUnits all unit (p ∷ ps) (table ∷ tables) = NumbersUnit all unit p table × NumbersUnits all (suc unit) ps tables

-- the numbers of a table in memory
abbrev pub numbers_in : Vec ℕ Global → List ℕ
numbers_in v = v.items
