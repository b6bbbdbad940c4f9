-- What a phrase of a routine's body keeps where the program is given: the conditions of alma_ir on one phrase, all in one, with the
-- slots of its loops.
use Rattle.std.specs.Prelude.{◌≡◌, ℕ, suc, ◌+◌, ◌<◌, ◌≤◌, pos, Bool, false, List, length, IsSome, IsNone}
use Rattle.std.specs.List.{AllByRecursion}
use Rattle.alma_ir.specs.declared.phrase.Root.{Root}
use Rattle.alma_ir.specs.declared.phrase.Root.TheVariants as root
use Rattle.alma_ir.specs.Tree.{Program, Routine, Loop, Args, ReturnExpr, routine_at, Assign, CopyCells, ForTo, SomeOf, Case, Either, Forall}
use Rattle.alma_ir.specs.Tree.{Commit, Return, Read, no_branches, a_loop, no_result, some_result, Bind, Unify, SameCells, Seq, Or, CallTest}
use Rattle.alma_ir.specs.Tree.{no_tests, Load, Known, CallExpr, ByValue, MixValue, a_desig, Index}
use Rattle.alma_ir.specs.Phrases.{Phrase, StmtPhrase, TestPhrase, ExprPhrase, ArgPhrase, DesigPhrase, SelPhrase, loop_phrases}
use Rattle.alma_ir.specs.Checked.{loops_of, IsOutside, HoldsPlace, HoldPlace, LeavesPosition, LeadOut, outer_at, desig_cells, ArePartsOf}
use Rattle.alma_ir.specs.Checked.{labels_of, IsOrdered, LoopLeaves, LinksAgree, ArgsFit, HaveNoReturn}

-- where a body stands: the program, the number of its routine, and where the frame of each routine ends, before the slots of loops
pub record Place : Type 0 where
  pub program : Program
  pub number : ℕ
  pub ends : ℕ → ℕ

-- the routine itself
abbrev pub own : Place → Routine
own k = routine_at k.program k.number

-- ---- roots, loops and calls

-- number slots in the frame of a routine
abbrev pub InFrame : Place → (q slot cells : ℕ) → Type 0
InFrame k q slot cells = (slot + cells ≤ k.ends q)
    × AllByRecursion (λ x. HoldsPlace x.kind → IsOutside slot cells x.slot) (routine_at k.program q).params

-- a root is of slots in a frame, its own or one round it, or of a parameter that holds a place
abbrev pub RootFits : Place → Root → ℕ → Type 0
RootFits k (root.Local slot) cells = InFrame k k.number slot cells × LeavesPosition k.number slot
RootFits k (root.Global slot) cells = (0 < (own k).level) × InFrame k 0 slot cells × (0 < slot)
RootFits k (root.Param slot) cells = HoldPlace (own k).params slot cells
RootFits k (root.Outer links slot) cells = LeadOut (own k) links × InFrame k (outer_at k.program k.number links) slot cells
RootFits k (root.OuterParam links slot) cells = LeadOut (own k) links
    × HoldPlace (routine_at k.program (outer_at k.program k.number links)).params slot cells

-- the hidden slots of a loop are from lo on and below hi, and no loop inside of it has them
abbrev pub LoopFits : (lo hi : ℕ) → Loop → Type 0
LoopFits lo hi (a_loop d range counter limit from to by body) =
    (desig_cells d ≡ 1) × IsOrdered range × (by ≡ pos 0 → ⊥) × (lo ≤ counter) × (limit ≡ suc counter) × (limit < hi)
    × AllByRecursion (λ x. AllByRecursion (LoopLeaves counter limit) (loops_of x))
    (loop_phrases (a_loop d range counter limit from to by body))

-- a call is of a routine of the program, with links that lead to the routine round it, and with arguments that fit
abbrev pub Calls : Place → (q : ℕ) → Args → (up : ℕ) → Type 0
Calls k q args up = (0 < q) × (q < length k.program.routines) × LinksAgree k.program k.number (own k) q up
    × ArgsFit (routine_at k.program q).params args

-- RETURN has an expression exactly where the routine has a result
abbrev pub ReturnFits : Routine → ReturnExpr → Type 0
ReturnFits routine no_result = IsNone routine.result
ReturnFits routine (some_result e) = IsSome routine.result

-- ---- phrases

-- a phrase, in a place with RETURN or (`inside`) without, whose loops have the hidden slots from lo on and below hi
abbrev pub Fits : Place → (inside : Bool) → (lo hi : ℕ) → Phrase → Type 0
Fits k i lo hi (StmtPhrase (Assign d e range)) = (desig_cells d ≡ 1) × IsOrdered range
Fits k i lo hi (StmtPhrase (CopyCells d e)) = desig_cells d ≡ desig_cells e
Fits k i lo hi (StmtPhrase (ForTo l)) = LoopFits lo hi l
Fits k i lo hi (StmtPhrase (SomeOf l)) = LoopFits lo hi l
Fits k i lo hi (StmtPhrase (Case e arms rest)) = AllByRecursion IsOrdered (labels_of arms)
Fits k i lo hi (StmtPhrase (Either no_branches)) = ⊥
Fits k i lo hi (StmtPhrase (Forall x y)) = HaveNoReturn x × HaveNoReturn y
Fits k i lo hi (StmtPhrase (Commit x)) = HaveNoReturn x
Fits k i lo hi (StmtPhrase (Return e)) = (i ≡ false) × ReturnFits (own k) e
Fits k i lo hi (StmtPhrase (Read d how range)) = (desig_cells d ≡ 1) × IsOrdered range
Fits k i lo hi (TestPhrase (Bind d e range left)) = (desig_cells d ≡ 1) × IsOrdered range
Fits k i lo hi (TestPhrase (Unify d range e range')) = (desig_cells d ≡ 1) × (desig_cells e ≡ 1) × IsOrdered range × IsOrdered range'
Fits k i lo hi (TestPhrase (SameCells d e)) = desig_cells d ≡ desig_cells e
Fits k i lo hi (TestPhrase (Seq x)) = HaveNoReturn x
Fits k i lo hi (TestPhrase (Or no_tests)) = ⊥
Fits k i lo hi (TestPhrase (CallTest q args up)) = IsNone (routine_at k.program q).result × Calls k q args up
Fits k i lo hi (ExprPhrase (Load d)) = desig_cells d ≡ 1
Fits k i lo hi (ExprPhrase (Known d)) = desig_cells d ≡ 1
Fits k i lo hi (ExprPhrase (CallExpr q args up)) = IsSome (routine_at k.program q).result × Calls k q args up
Fits k i lo hi (ArgPhrase (ByValue e range)) = IsOrdered range
Fits k i lo hi (ArgPhrase (MixValue e range)) = IsOrdered range
Fits k i lo hi (DesigPhrase (a_desig r cells sels)) = RootFits k r cells × ArePartsOf sels cells
Fits k i lo hi (SelPhrase (Index e range cells)) = IsOrdered range
Fits k i lo hi _ = Unit {0}

-- ---- lists of phrases

-- each phrase fits, and the hidden slots go from lo on up to hi
pub record PhrasesFit (k : Place) (i : Bool) (lo hi : ℕ) (xs : List Phrase) : Type 0 where
  pub le : lo ≤ hi
  pub all : AllByRecursion (Fits k i lo hi) xs
