-- What the checker's programs keep, and what a program must keep to be compiled: each condition by
-- itself, and all.
use Rattle.std.specs.Prelude.{◌≡◌, ◌⊎◌, ℕ, zero, suc, ◌+◌, ◌*◌, ◌<◌, ◌≤◌, IsTrue, pos, ◌≤ℤ◌, List, [], ◌∷◌, ◌++◌, length, sum_by, Some}
use Rattle.std.specs.Prelude.{IsSome, IsNone}
use Rattle.std.specs.List.{AllByRecursion}
use Rattle.alma_base.specs.Limits.{cell_limit, routine_slot_limit, record_limit, pool_limit}
use Rattle.alma_base.specs.Bytes.{is_letter, is_word_byte}
use Rattle.alma_base.specs.Numbers.{range_size}
use Rattle.alma_base.specs.declared.number.Range.{Range}
use Rattle.alma_ir.specs.declared.program.ArgKind.{ArgKind}
use Rattle.alma_ir.specs.declared.program.ArgKind.TheVariants as kind
use Rattle.alma_ir.specs.declared.program.Param.{Param}
use Rattle.alma_ir.specs.declared.phrase.Root.TheVariants as root
use Rattle.alma_ir.specs.Tree.{Stmts, CaseArms, Loop, Args, Arg, Desig, Sels, Sel, Routine, Global, Program, routine_at, Assign, CopyCells}
use Rattle.alma_ir.specs.Tree.{ForTo, SomeOf, Case, Either, Forall, Commit, Return, Read, WriteText, no_cases, more_cases, no_branches}
use Rattle.alma_ir.specs.Tree.{a_loop, no_result, some_result, Bind, Unify, SameCells, Seq, Or, CallTest, no_tests, Load, Known, CallExpr}
use Rattle.alma_ir.specs.Tree.{no_args, more_args, ByValue, ByCells, ByPlace, MixValue, MixPlace, a_desig, no_sels, more_sels, Field, Index}
use Rattle.alma_ir.specs.Lines.{stmt_count}
use Rattle.alma_ir.specs.Phrases.{Phrase, StmtPhrase, TestPhrase, ExprPhrase, ArgPhrase, DesigPhrase, SelPhrase, stmts_phrases}
use Rattle.alma_ir.specs.Phrases.{loop_phrases}

-- ---- how the conditions are said

-- a fact of each routine, with its number
abbrev pub EachRoutine : Program → (ℕ → Routine → Type 0) → Type 0
EachRoutine p Fact = (r : ℕ) → r < length p.routines → Fact r (routine_at p r)

-- a fact of each phrase of each routine, with the routine's number
abbrev pub EachPhrase : Program → (ℕ → Routine → Phrase → Type 0) → Type 0
EachPhrase p Fact = EachRoutine p (λ r routine. AllByRecursion (Fact r routine) (stmts_phrases routine.body))

-- the loops that a phrase is: one or none
abbrev pub loops_of : Phrase → List Loop
loops_of (StmtPhrase (ForTo l)) = l ∷ []
loops_of (StmtPhrase (SomeOf l)) = l ∷ []
loops_of _ = []

-- the slot is none of the `count` slots from `from` on
abbrev pub IsOutside : (from count slot : ℕ) → Type 0
IsOutside from count slot = (slot < from) ⊎ (from + count ≤ slot)

-- ---- the body of the module

-- there is a routine 0, and it has at least one slot
abbrev pub HasBody : Program → Type 0
HasBody p = (0 < length p.routines) × (0 < (routine_at p 0).slots)

-- routine 0 has no parameters and no result
abbrev pub BodyTakesNothing : Program → Type 0
BodyTakesNothing p = ((routine_at p 0).params ≡ []) × IsNone (routine_at p 0).result

-- ---- parameters and slots

-- the slots of a parameter: one for a number or a place, both for MIX, and one for each cell that
-- is copied
abbrev pub slots_of_kind : ArgKind → (cells : ℕ) → ℕ
slots_of_kind kind.Value cells = 1
slots_of_kind kind.Place cells = 1
slots_of_kind kind.Mix cells = 2
slots_of_kind kind.Cells cells = cells

-- the slots that a parameter takes in its frame
abbrev pub param_slots : Param → ℕ
param_slots q = slots_of_kind q.kind q.cells

-- the parameters take the slots from this one on, in order
abbrev pub AreLaidOut : (slot : ℕ) → List Param → Type 0
AreLaidOut slot [] = Unit {0}
AreLaidOut slot (q ∷ rest) = (q.slot ≡ slot) × AreLaidOut (slot + param_slots q) rest

-- a parameter that is a number or MIX has one cell
abbrev pub HasOneCellAs : ArgKind → (cells : ℕ) → Type 0
HasOneCellAs kind.Value cells = cells ≡ 1
HasOneCellAs kind.Mix cells = cells ≡ 1
HasOneCellAs kind.Place cells = Unit {0}
HasOneCellAs kind.Cells cells = Unit {0}

-- the parameters of a routine take its first slots, in order
pub record ParamsFirst (routine : Routine) : Type 0 where
  pub laid_out : AreLaidOut 0 routine.params
  pub fit : sum_by param_slots routine.params ≤ routine.slots
  pub cells : AllByRecursion (λ q. HasOneCellAs q.kind q.cells) routine.params

-- a routine declares at most as many cells as it has slots; the body of the module declares fewer,
-- since the input position is not declared
pub record DeclaredFits (r : ℕ) (routine : Routine) : Type 0 where
  pub within : routine.declared ≤ routine.slots
  pub body : r ≡ 0 → routine.declared < routine.slots

-- a parameter of this kind has a slot for a place, its first
abbrev pub HoldsPlace : ArgKind → Type 0
HoldsPlace kind.Place = Unit {0}
HoldsPlace kind.Mix = Unit {0}
HoldsPlace kind.Value = ⊥
HoldsPlace kind.Cells = ⊥

-- one of the parameters holds a place of so many cells in this slot
abbrev pub HoldPlace : List Param → (slot cells : ℕ) → Type 0
HoldPlace [] slot cells = ⊥
HoldPlace (q ∷ rest) slot cells = (HoldsPlace q.kind × (q.slot ≡ slot) × (q.cells ≡ cells)) ⊎ HoldPlace rest slot cells

-- The `count` slots from `from` on are slots of the routine, and all for numbers. The second slot
-- of a MIX parameter is one. No slots may begin anywhere up to the end of the slots.
pub record AreNumbers (routine : Routine) (from count : ℕ) : Type 0 where
  pub exist : from + count ≤ routine.slots
  pub kinds : AllByRecursion (λ q. HoldsPlace q.kind → IsOutside from count q.slot) routine.params

-- a slot of routine 0 that a name may have is not the input position
abbrev pub LeavesPosition : (r slot : ℕ) → Type 0
LeavesPosition r slot = r ≡ 0 → 0 < slot

-- ---- routines inside routines

-- the routine to which so many links lead from a routine
abbrev pub outer_at : Program → (r links : ℕ) → ℕ
outer_at p r zero = r
outer_at p r (suc links) = outer_at p (routine_at p r).outer links

-- the body of the module has level 0, and each other routine the level above that of the routine
-- round it
pub record IsNested (p : Program) (r : ℕ) (routine : Routine) : Type 0 where
  pub body : r ≡ 0 → (routine.level ≡ 0) × (routine.outer ≡ 0)
  pub exists : routine.outer < length p.routines
  pub above : 0 < r → routine.level ≡ suc (routine_at p routine.outer).level
  pub few : routine.level ≤ 8

-- one for each routine of level 2 or more, whose code has a parameter more, for the link
abbrev pub link_slots : (level : ℕ) → ℕ
link_slots zero = 0
link_slots (suc zero) = 0
link_slots (suc (suc above)) = 1

-- links that lead to a routine round the routine, and not to the body of the module
abbrev pub LeadOut : Routine → (links : ℕ) → Type 0
LeadOut routine links = (0 < links) × (links < routine.level)

-- ---- globals and roots

-- a variable of the module names number slots of routine 0, not the input position, where it begins
-- even with no cells
pub record IsGlobal (p : Program) (g : Global) : Type 0 where
  pub slots : AreNumbers (routine_at p 0) g.slot g.cells
  pub position : 0 < g.slot

-- a root names number slots of its routine, of one round it or, in a procedure, of routine 0, and
-- no input position, where it begins even with no cells; or a parameter of its routine or of one
-- round it that holds a place of as many cells
abbrev pub RootExists : Program → ℕ → Routine → Phrase → Type 0
RootExists p r routine (DesigPhrase (a_desig (root.Local slot) cells sels)) = AreNumbers routine slot cells × LeavesPosition r slot
RootExists p r routine (DesigPhrase (a_desig (root.Global slot) cells sels)) = (0 < routine.level) × AreNumbers (routine_at p 0) slot cells
    × (0 < slot)
RootExists p r routine (DesigPhrase (a_desig (root.Param slot) cells sels)) = HoldPlace routine.params slot cells
RootExists p r routine (DesigPhrase (a_desig (root.Outer links slot) cells sels)) =
    LeadOut routine links × AreNumbers (routine_at p (outer_at p r links)) slot cells
RootExists p r routine (DesigPhrase (a_desig (root.OuterParam links slot) cells sels)) =
    LeadOut routine links × HoldPlace (routine_at p (outer_at p r links)).params slot cells
RootExists p r routine _ = Unit {0}

-- ---- cells

-- the cells of the part that a selector takes
abbrev pub sel_cells : Sel → ℕ
sel_cells (Field offset cells) = cells
sel_cells (Index e range cells) = cells

-- the cells that are left of so many by selectors
abbrev pub cells_after : Sels → ℕ → ℕ
cells_after no_sels cells = cells
cells_after (more_sels x rest) cells = cells_after rest (sel_cells x)

-- the cells that a designator names
abbrev pub desig_cells : Desig → ℕ
desig_cells (a_desig root cells sels) = cells_after sels cells

-- the part that a selector takes lies in so many cells: a field, or each element of an array
abbrev pub IsPart : Sel → (cells : ℕ) → Type 0
IsPart (Field offset part) cells = offset + part ≤ cells
IsPart (Index e range part) cells = range_size range * part ≤ cells

-- each selector takes a part of what the one before it has left, at first so many cells
abbrev pub ArePartsOf : Sels → (cells : ℕ) → Type 0
ArePartsOf no_sels cells = Unit {0}
ArePartsOf (more_sels x rest) cells = IsPart x cells × ArePartsOf rest (sel_cells x)

-- each selector of a designator takes a part of what stands before it
abbrev pub PartsExist : Phrase → Type 0
PartsExist (DesigPhrase (a_desig root cells sels)) = ArePartsOf sels cells
PartsExist _ = Unit {0}

-- the variable of a loop
abbrev pub loop_var : Loop → Desig
loop_var (a_loop d range counter limit from to by body) = d

-- a designator has one cell where a number is read or stored, and two whose cells meet have equally
-- many
abbrev pub CellsAgree : Phrase → Type 0
CellsAgree (StmtPhrase (Assign d e range)) = desig_cells d ≡ 1
CellsAgree (StmtPhrase (CopyCells d e)) = desig_cells d ≡ desig_cells e
CellsAgree (StmtPhrase (ForTo l)) = desig_cells (loop_var l) ≡ 1
CellsAgree (StmtPhrase (SomeOf l)) = desig_cells (loop_var l) ≡ 1
CellsAgree (StmtPhrase (Read d how range)) = desig_cells d ≡ 1
CellsAgree (TestPhrase (Bind d e range left)) = desig_cells d ≡ 1
CellsAgree (TestPhrase (Unify d range e range')) = (desig_cells d ≡ 1) × (desig_cells e ≡ 1)
CellsAgree (TestPhrase (SameCells d e)) = desig_cells d ≡ desig_cells e
CellsAgree (ExprPhrase (Load d)) = desig_cells d ≡ 1
CellsAgree (ExprPhrase (Known d)) = desig_cells d ≡ 1
CellsAgree _ = Unit {0}

-- ---- ranges

-- the labels of all arms of CASE, in order
abbrev pub labels_of : CaseArms → List Range
labels_of no_cases = []
labels_of (more_cases labels body rest) = labels ++ labels_of rest

-- the ranges that a phrase itself holds: each exists where it is in order
abbrev pub ranges_of : Phrase → List Range
ranges_of (StmtPhrase (Assign d e range)) = range ∷ []
ranges_of (StmtPhrase (ForTo (a_loop d range counter limit from to by body))) = range ∷ []
ranges_of (StmtPhrase (SomeOf (a_loop d range counter limit from to by body))) = range ∷ []
ranges_of (StmtPhrase (Case e arms rest)) = labels_of arms
ranges_of (StmtPhrase (Read d how range)) = range ∷ []
ranges_of (TestPhrase (Bind d e range left)) = range ∷ []
ranges_of (TestPhrase (Unify d range e range')) = range ∷ range' ∷ []
ranges_of (ArgPhrase (ByValue e range)) = range ∷ []
ranges_of (ArgPhrase (MixValue e range)) = range ∷ []
ranges_of (SelPhrase (Index e range cells)) = range ∷ []
ranges_of _ = []

-- there is a number in the range
abbrev pub IsOrdered : Range → Type 0
IsOrdered range = range.low ≤ℤ range.high

-- the ranges of a routine's parameters and result are in order
pub record HeadRangesOrdered (routine : Routine) : Type 0 where
  pub params : AllByRecursion (λ q. IsOrdered q.range) routine.params
  pub result : (range : Range) → routine.result ≡ Some range → IsOrdered range

-- each range of a phrase is in order
abbrev pub RangesOrdered : Phrase → Type 0
RangesOrdered x = AllByRecursion IsOrdered (ranges_of x)

-- ---- loops

-- the step is not 0
abbrev pub HasStep : Loop → Type 0
HasStep (a_loop d range counter limit from to by body) = by ≡ pos 0 → ⊥

-- the root of a phrase of the routine `holder` leaves out this slot of routine r
abbrev pub RootLeaves : Program → (holder r slot : ℕ) → Phrase → Type 0
RootLeaves p holder r slot (DesigPhrase (a_desig (root.Local from) cells sels)) = holder ≡ r → IsOutside from cells slot
RootLeaves p holder r slot (DesigPhrase (a_desig (root.Global from) cells sels)) = r ≡ 0 → IsOutside from cells slot
RootLeaves p holder r slot (DesigPhrase (a_desig (root.Outer links from) cells sels)) = outer_at p holder links ≡ r
    → IsOutside from cells slot
RootLeaves p holder r slot _ = Unit {0}

-- neither of two slots is the counter or the limit of a loop
abbrev pub LoopLeaves : (counter limit : ℕ) → Loop → Type 0
LoopLeaves counter limit (a_loop d range counter' limit' from to by body) =
    ((counter ≡ counter') → ⊥) × ((counter ≡ limit') → ⊥) × ((limit ≡ counter') → ⊥) × ((limit ≡ limit') → ⊥)

-- a slot of routine r for a count: it exists, is not the input position, and no parameter, global
-- or root takes it in
pub record IsHiddenSlot (p : Program) (r slot : ℕ) : Type 0 where
  pub exists : slot < (routine_at p r).slots
  pub position : LeavesPosition r slot
  pub params : AllByRecursion (λ q. IsOutside q.slot (param_slots q) slot) (routine_at p r).params
  pub globals : r ≡ 0 → AllByRecursion (λ g. IsOutside g.slot g.cells slot) p.globals
  pub roots : EachPhrase p (λ holder routine x. RootLeaves p holder r slot x)

-- counter and limit of a loop are two such slots, which no loop inside of it has
pub record CountsApart (p : Program) (r counter limit : ℕ) (inside : List Phrase) : Type 0 where
  pub of_counter : IsHiddenSlot p r counter
  pub of_limit : IsHiddenSlot p r limit
  pub two : counter ≡ limit → ⊥
  pub nested : AllByRecursion (λ x. AllByRecursion (LoopLeaves counter limit) (loops_of x)) inside

-- counter and limit of a loop are apart; inside of it are its variable, its bounds and its body
abbrev pub LoopIsApart : Program → ℕ → Loop → Type 0
LoopIsApart p r (a_loop d range counter limit from to by body) =
    CountsApart p r counter limit (loop_phrases (a_loop d range counter limit from to by body))

-- ---- calls

-- a routine that is called exists, and is not the body of the module
abbrev pub CalleeExists : Program → Phrase → Type 0
CalleeExists p (TestPhrase (CallTest q args up)) = (0 < q) × (q < length p.routines)
CalleeExists p (ExprPhrase (CallExpr q args up)) = (0 < q) × (q < length p.routines)
CalleeExists p _ = Unit {0}

-- a call in an expression is of a routine with a result, and a call as a test of one without
abbrev pub ResultAgrees : Program → Phrase → Type 0
ResultAgrees p (TestPhrase (CallTest q args up)) = IsNone (routine_at p q).result
ResultAgrees p (ExprPhrase (CallExpr q args up)) = IsSome (routine_at p q).result
ResultAgrees p _ = Unit {0}

-- the links of a call lead to the routine round the called one, as many as the levels say
abbrev pub LinksAgree : Program → (r : ℕ) → Routine → (q up : ℕ) → Type 0
LinksAgree p r routine q up = (up + (routine_at p q).level ≡ suc routine.level) × (outer_at p r up ≡ (routine_at p q).outer)

-- the links of each call lead where they are to
abbrev pub CallLeads : Program → ℕ → Routine → Phrase → Type 0
CallLeads p r routine (TestPhrase (CallTest q args up)) = LinksAgree p r routine q up
CallLeads p r routine (ExprPhrase (CallExpr q args up)) = LinksAgree p r routine q up
CallLeads p r routine _ = Unit {0}

-- an argument is of the parameter's kind, and a designator has the parameter's cells
abbrev pub ArgFits : Param → Arg → Type 0
ArgFits q (ByValue e range) = q.kind ≡ kind.Value
ArgFits q (ByCells d) = (q.kind ≡ kind.Cells) × (desig_cells d ≡ q.cells)
ArgFits q (ByPlace d) = (q.kind ≡ kind.Place) × (desig_cells d ≡ q.cells)
ArgFits q (MixValue e range) = q.kind ≡ kind.Mix
ArgFits q (MixPlace d) = (q.kind ≡ kind.Mix) × (desig_cells d ≡ q.cells)

-- as many arguments as parameters, each fitting its own
abbrev pub ArgsFit : List Param → Args → Type 0
ArgsFit [] no_args = Unit {0}
ArgsFit [] (more_args a rest) = ⊥
ArgsFit (q ∷ qs) no_args = ⊥
ArgsFit (q ∷ qs) (more_args a rest) = ArgFits q a × ArgsFit qs rest

-- the arguments of a call fit the parameters of the routine
abbrev pub CallFits : Program → Phrase → Type 0
CallFits p (TestPhrase (CallTest q args up)) = ArgsFit (routine_at p q).params args
CallFits p (ExprPhrase (CallExpr q args up)) = ArgsFit (routine_at p q).params args
CallFits p _ = Unit {0}

-- ---- choices and RETURN

-- an EITHER has a branch, and an OR has an operand
abbrev pub HasChoice : Phrase → Type 0
HasChoice (StmtPhrase (Either no_branches)) = ⊥
HasChoice (TestPhrase (Or no_tests)) = ⊥
HasChoice _ = Unit {0}

-- RETURN has an expression in a routine with a result, and none in one without
abbrev pub ReturnAgrees : Routine → Phrase → Type 0
ReturnAgrees routine (StmtPhrase (Return no_result)) = IsNone routine.result
ReturnAgrees routine (StmtPhrase (Return (some_result e))) = IsSome routine.result
ReturnAgrees routine _ = Unit {0}

-- the phrase is no RETURN
abbrev pub IsNoReturn : Phrase → Type 0
IsNoReturn (StmtPhrase (Return e)) = ⊥
IsNoReturn _ = Unit {0}

-- no RETURN stands in the statements, at any depth
abbrev pub HaveNoReturn : Stmts → Type 0
HaveNoReturn x = AllByRecursion IsNoReturn (stmts_phrases x)

-- no RETURN stands inside a FORALL, a COMMIT or a sequence that is a test
abbrev pub ReturnsStay : Phrase → Type 0
ReturnsStay (StmtPhrase (Forall x y)) = HaveNoReturn x × HaveNoReturn y
ReturnsStay (StmtPhrase (Commit x)) = HaveNoReturn x
ReturnsStay (TestPhrase (Seq x)) = HaveNoReturn x
ReturnsStay _ = Unit {0}

-- ---- names and limits

-- a letter or `_`, and then letters, digits and `_`
abbrev pub IsName : List ℕ → Type 0
IsName [] = ⊥
IsName (c ∷ rest) = IsTrue (is_letter c) × AllByRecursion (λ b. IsTrue (is_word_byte b)) rest

-- the names of globals and routines are spelled as names or reserved words
pub record NamesSpelled (p : Program) : Type 0 where
  pub globals : AllByRecursion (λ g. IsName g.name) p.globals
  pub routines : AllByRecursion (λ r. IsName r.name) p.routines

-- the bytes of the texts that a phrase itself prints
abbrev pub text_bytes : Phrase → ℕ
text_bytes (StmtPhrase (WriteText text)) = length text
text_bytes _ = 0

-- the routine begins at a line, and each statement of its body has one
pub record HasLines (routine : Routine) : Type 0 where
  pub line : 0 < routine.line
  pub count : length routine.lines ≡ stmt_count (stmts_phrases routine.body)
  pub lines : AllByRecursion (λ l. 0 < l) routine.lines

-- how much the whole program may hold, with a parameter more for each link
pub record KeepsLimits (p : Program) : Type 0 where
  pub globals : length p.globals ≤ record_limit
  pub params : sum_by (λ r. length r.params + link_slots r.level) p.routines ≤ record_limit
  pub names : sum_by (λ r. length r.name) p.routines + sum_by (λ g. length g.name) p.globals ≤ pool_limit
  pub texts : sum_by (λ r. sum_by text_bytes (stmts_phrases r.body)) p.routines ≤ pool_limit

-- how much a routine may hold, with a slot more for its link
pub record RoutineKeepsLimits (routine : Routine) : Type 0 where
  pub declared : routine.declared ≤ cell_limit
  pub slots : routine.slots + link_slots routine.level ≤ routine_slot_limit

-- ---- all conditions

-- a program that the checker may hand over, and that may be compiled. The numbers in it are bounded
-- by the types of the program in memory and not here; an argument's range is not compared with the
-- parameter's, and the program's own name is free
pub record IsChecked (p : Program) : Type 0 where
  pub body : HasBody p
  pub body_takes_nothing : BodyTakesNothing p
  pub params : EachRoutine p (λ r routine. ParamsFirst routine)
  pub declared : EachRoutine p DeclaredFits
  pub nested : EachRoutine p (IsNested p)
  pub globals : AllByRecursion (IsGlobal p) p.globals
  pub roots : EachPhrase p (RootExists p)
  pub parts : EachPhrase p (λ r routine x. PartsExist x)
  pub cells : EachPhrase p (λ r routine x. CellsAgree x)
  pub head_ranges : EachRoutine p (λ r routine. HeadRangesOrdered routine)
  pub ranges : EachPhrase p (λ r routine x. RangesOrdered x)
  pub steps : EachPhrase p (λ r routine x. AllByRecursion HasStep (loops_of x))
  pub loops : EachPhrase p (λ r routine x. AllByRecursion (LoopIsApart p r) (loops_of x))
  pub callees : EachPhrase p (λ r routine x. CalleeExists p x)
  pub results : EachPhrase p (λ r routine x. ResultAgrees p x)
  pub links : EachPhrase p (CallLeads p)
  pub arguments : EachPhrase p (λ r routine x. CallFits p x)
  pub choices : EachPhrase p (λ r routine x. HasChoice x)
  pub returns : EachPhrase p (λ r routine x. ReturnAgrees routine x)
  pub returns_stay : EachPhrase p (λ r routine x. ReturnsStay x)
  pub lines : EachRoutine p (λ r routine. HasLines routine)
  pub names : NamesSpelled p
  pub limits : KeepsLimits p
  pub routine_limits : EachRoutine p (λ r routine. RoutineKeepsLimits routine)
