-- The conditions of alma_ir on the frames of a program's routines, and on how routines stand inside one another.
use Rattle.std.specs.Prelude.{ℕ, ◌<◌}
use Rattle.std.specs.List.{AllByRecursion}
use Rattle.alma_ir.specs.Tree.{Program, Routine}
use Rattle.alma_ir.specs.Checked.{EachRoutine, HasBody, BodyTakesNothing, ParamsFirst, DeclaredFits, IsNested}

-- of one routine, with its number; and its lines are lines
pub record KeepsRoutine (p : Program) (r : ℕ) (x : Routine) : Type 0 where
  pub params : ParamsFirst x
  pub declared : DeclaredFits r x
  pub nested : IsNested p r x
  pub line : 0 < x.line
  pub lines : AllByRecursion (λ l. 0 < l) x.lines

-- of the whole program
pub record KeepsFrames (p : Program) : Type 0 where
  pub body : HasBody p
  pub body_takes_nothing : BodyTakesNothing p
  pub routines : EachRoutine p (KeepsRoutine p)
