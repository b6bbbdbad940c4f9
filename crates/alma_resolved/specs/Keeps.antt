-- The conditions of alma_ir on one phrase of a routine, all of those that ask nothing of other phrases.
use Rattle.std.specs.List.{AllByRecursion}
use Rattle.std.specs.Prelude.{ℕ}
use Rattle.alma_ir.specs.Tree.{Program, routine_at}
use Rattle.alma_ir.specs.Phrases.{Phrase}
use Rattle.alma_ir.specs.Checked.{RootExists, PartsExist, CellsAgree, RangesOrdered, HasStep, loops_of, CalleeExists, ResultAgrees}
use Rattle.alma_ir.specs.Checked.{CallLeads, CallFits, HasChoice, ReturnAgrees, ReturnsStay}

-- a phrase of routine r
pub record KeepsPhrase (p : Program) (r : ℕ) (x : Phrase) : Type 0 where
  pub root : RootExists p r (routine_at p r) x
  pub parts : PartsExist x
  pub cells : CellsAgree x
  pub ranges : RangesOrdered x
  pub steps : AllByRecursion HasStep (loops_of x)
  pub callee : CalleeExists p x
  pub result : ResultAgrees p x
  pub links : CallLeads p r (routine_at p r) x
  pub arguments : CallFits p x
  pub choices : HasChoice x
  pub returns : ReturnAgrees (routine_at p r) x
  pub returns_stay : ReturnsStay x
