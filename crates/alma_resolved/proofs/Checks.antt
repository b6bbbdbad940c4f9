-- A phrase that fits keeps each condition on phrases.
use Rattle.std.proofs.Common.{◌≡◌, ℕ, ◌≤◌, Bool, Some, arith}
use Rattle.std.specs.List.{AllByRecursion}
use Rattle.alma_ir.specs.declared.phrase.Root.TheVariants as root
use Rattle.alma_ir.specs.Tree.{routine_at, Assign, CopyCells, ForTo, SomeOf, Case, Either, Forall, Commit, Return, Read, no_branches}
use Rattle.alma_ir.specs.Tree.{a_loop, no_result, some_result, Bind, Unify, SameCells, Seq, Or, CallTest, no_tests, Load, Known, CallExpr}
use Rattle.alma_ir.specs.Tree.{ByValue, MixValue, a_desig, Index, Stmts}
use Rattle.alma_ir.specs.Phrases.{Phrase, StmtPhrase, TestPhrase, ExprPhrase, ArgPhrase, DesigPhrase, SelPhrase, stmts_phrases}
use Rattle.alma_ir.specs.Checked.{RootExists, PartsExist, CellsAgree, RangesOrdered, HasStep, loops_of, CalleeExists, ResultAgrees}
use Rattle.alma_ir.specs.Checked.{CallLeads, CallFits, HasChoice, ReturnAgrees, ReturnsStay, AreNumbers, outer_at}
use Rattle.alma_ir.proofs.Each.{each_follows}
use Rattle.alma_rules.specs.Numbered as tree
use Rattle.alma_rules.specs.Scene.{Scene}
use Rattle.alma_rules.specs.Walk.{judge_stmts}
use Rattle.alma_resolved.specs.Fits.{Place, Fits, InFrame, PhrasesFit}
use Rattle.alma_resolved.specs.Scenes.{SceneFits}
use Rattle.alma_resolved.specs.Keeps.{KeepsPhrase}
use Rattle.alma_resolved.proofs.Fits.{when_is}
use Rattle.alma_resolved.proofs.Walks.{stmts_fit}

-- each frame ends inside its routine's slots
abbrev EndsFit : Place → Type 0
EndsFit k = (q : ℕ) → k.ends q ≤ (routine_at k.program q).slots

numbers : (k : Place) (q slot cells : ℕ) → EndsFit k → InFrame k q slot cells → AreNumbers (routine_at k.program q) slot cells
numbers k q slot cells ends h = record { exist = omega (arith, h.0, ends q); kinds = h.1 }

root_of : (k : Place) (i : Bool) (lo hi : ℕ) (x : Phrase) → EndsFit k → Fits k i lo hi x
    → RootExists k.program k.number (routine_at k.program k.number) x
root_of k i lo hi (DesigPhrase (a_desig (root.Local slot) cells sels)) ends h = (numbers k k.number slot cells ends h.0.0, h.0.1)
root_of k i lo hi (DesigPhrase (a_desig (root.Global slot) cells sels)) ends h = (h.0.0, numbers k 0 slot cells ends h.0.1, h.0.2)
root_of k i lo hi (DesigPhrase (a_desig (root.Param slot) cells sels)) ends h = h.0
root_of k i lo hi (DesigPhrase (a_desig (root.Outer links slot) cells sels)) ends h =
    (h.0.0, numbers k (outer_at k.program k.number links) slot cells ends h.0.1)
root_of k i lo hi (DesigPhrase (a_desig (root.OuterParam links slot) cells sels)) ends h = h.0
root_of k i lo hi x ends h = tt

parts_of : (k : Place) (i : Bool) (lo hi : ℕ) (x : Phrase) → Fits k i lo hi x → PartsExist x
parts_of k i lo hi (DesigPhrase (a_desig r cells sels)) h = h.1
parts_of k i lo hi x h = tt

cells_of : (k : Place) (i : Bool) (lo hi : ℕ) (x : Phrase) → Fits k i lo hi x → CellsAgree x
cells_of k i lo hi (StmtPhrase (Assign d e range)) h = h.0
cells_of k i lo hi (StmtPhrase (CopyCells d e)) h = h
cells_of k i lo hi (StmtPhrase (ForTo (a_loop d range counter limit from to by body))) h = h.0
cells_of k i lo hi (StmtPhrase (SomeOf (a_loop d range counter limit from to by body))) h = h.0
cells_of k i lo hi (StmtPhrase (Read d how range)) h = h.0
cells_of k i lo hi (TestPhrase (Bind d e range left)) h = h.0
cells_of k i lo hi (TestPhrase (Unify d range e range')) h = (h.0, h.1)
cells_of k i lo hi (TestPhrase (SameCells d e)) h = h
cells_of k i lo hi (ExprPhrase (Load d)) h = h
cells_of k i lo hi (ExprPhrase (Known d)) h = h
cells_of k i lo hi x h = tt

ranges_of_phrase : (k : Place) (i : Bool) (lo hi : ℕ) (x : Phrase) → Fits k i lo hi x → RangesOrdered x
ranges_of_phrase k i lo hi (StmtPhrase (Assign d e range)) h = (h.1, tt)
ranges_of_phrase k i lo hi (StmtPhrase (ForTo (a_loop d range counter limit from to by body))) h = (h.1, tt)
ranges_of_phrase k i lo hi (StmtPhrase (SomeOf (a_loop d range counter limit from to by body))) h = (h.1, tt)
ranges_of_phrase k i lo hi (StmtPhrase (Case e arms rest)) h = h
ranges_of_phrase k i lo hi (StmtPhrase (Read d how range)) h = (h.1, tt)
ranges_of_phrase k i lo hi (TestPhrase (Bind d e range left)) h = (h.1, tt)
ranges_of_phrase k i lo hi (TestPhrase (Unify d range e range')) h = (h.2, (h.3, tt))
ranges_of_phrase k i lo hi (ArgPhrase (ByValue e range)) h = (h, tt)
ranges_of_phrase k i lo hi (ArgPhrase (MixValue e range)) h = (h, tt)
ranges_of_phrase k i lo hi (SelPhrase (Index e range cells)) h = (h, tt)
ranges_of_phrase k i lo hi x h = tt

steps_of : (k : Place) (i : Bool) (lo hi : ℕ) (x : Phrase) → Fits k i lo hi x → AllByRecursion HasStep (loops_of x)
steps_of k i lo hi (StmtPhrase (ForTo (a_loop d range counter limit from to by body))) h = (h.2, tt)
steps_of k i lo hi (StmtPhrase (SomeOf (a_loop d range counter limit from to by body))) h = (h.2, tt)
steps_of k i lo hi x h = tt

callee_of : (k : Place) (i : Bool) (lo hi : ℕ) (x : Phrase) → Fits k i lo hi x → CalleeExists k.program x
callee_of k i lo hi (TestPhrase (CallTest q args up)) h = (h.1.0, h.1.1)
callee_of k i lo hi (ExprPhrase (CallExpr q args up)) h = (h.1.0, h.1.1)
callee_of k i lo hi x h = tt

result_of : (k : Place) (i : Bool) (lo hi : ℕ) (x : Phrase) → Fits k i lo hi x → ResultAgrees k.program x
result_of k i lo hi (TestPhrase (CallTest q args up)) h = h.0
result_of k i lo hi (ExprPhrase (CallExpr q args up)) h = h.0
result_of k i lo hi x h = tt

links_of : (k : Place) (i : Bool) (lo hi : ℕ) (x : Phrase) → Fits k i lo hi x
    → CallLeads k.program k.number (routine_at k.program k.number) x
links_of k i lo hi (TestPhrase (CallTest q args up)) h = h.1.2
links_of k i lo hi (ExprPhrase (CallExpr q args up)) h = h.1.2
links_of k i lo hi x h = tt

arguments_of : (k : Place) (i : Bool) (lo hi : ℕ) (x : Phrase) → Fits k i lo hi x → CallFits k.program x
arguments_of k i lo hi (TestPhrase (CallTest q args up)) h = h.1.3
arguments_of k i lo hi (ExprPhrase (CallExpr q args up)) h = h.1.3
arguments_of k i lo hi x h = tt

choices_of : (k : Place) (i : Bool) (lo hi : ℕ) (x : Phrase) → Fits k i lo hi x → HasChoice x
choices_of k i lo hi (StmtPhrase (Either no_branches)) h = h
choices_of k i lo hi (TestPhrase (Or no_tests)) h = h
choices_of k i lo hi x h = tt

returns_of : (k : Place) (i : Bool) (lo hi : ℕ) (x : Phrase) → Fits k i lo hi x → ReturnAgrees (routine_at k.program k.number) x
returns_of k i lo hi (StmtPhrase (Return no_result)) h = h.1
returns_of k i lo hi (StmtPhrase (Return (some_result e))) h = h.1
returns_of k i lo hi x h = tt

stays_of : (k : Place) (i : Bool) (lo hi : ℕ) (x : Phrase) → Fits k i lo hi x → ReturnsStay x
stays_of k i lo hi (StmtPhrase (Forall x y)) h = h
stays_of k i lo hi (StmtPhrase (Commit x)) h = h
stays_of k i lo hi (TestPhrase (Seq x)) h = h
stays_of k i lo hi x h = tt

pub phrase_keeps : (k : Place) (i : Bool) (lo hi : ℕ) (x : Phrase) → EndsFit k → Fits k i lo hi x → KeepsPhrase k.program k.number x
phrase_keeps k i lo hi x ends h = record {
  root = root_of k i lo hi x ends h;
  parts = parts_of k i lo hi x h;
  cells = cells_of k i lo hi x h;
  ranges = ranges_of_phrase k i lo hi x h;
  steps = steps_of k i lo hi x h;
  callee = callee_of k i lo hi x h;
  result = result_of k i lo hi x h;
  links = links_of k i lo hi x h;
  arguments = arguments_of k i lo hi x h;
  choices = choices_of k i lo hi x h;
  returns = returns_of k i lo hi x h;
  returns_stay = stays_of k i lo hi x h;
}

-- a body in a scene that fits
pub body_fits : (k : Place) (s : Scene) → SceneFits k s → (n : ℕ) (x : tree.Stmts) (y : Stmts) → (judge_stmts s n x).value ≡ Some y
    → PhrasesFit k s.inside n (judge_stmts s n x).next (stmts_phrases y)
body_fits k s e n x y i = when_is y i (stmts_fit e n x)

pub body_keeps : (k : Place) (s : Scene) → EndsFit k → SceneFits k s → (n : ℕ) (x : tree.Stmts) (y : Stmts)
    → (judge_stmts s n x).value ≡ Some y → AllByRecursion (KeepsPhrase k.program k.number) (stmts_phrases y)
body_keeps k s ends e n x y i =
    each_follows (Fits k s.inside n (judge_stmts s n x).next) (KeepsPhrase k.program k.number)
    (λ z h. phrase_keeps k s.inside n (judge_stmts s n x).next z ends h) (stmts_phrases y) (body_fits k s e n x y i).all
