-- The first turn of a loop is a turn as the level above gives it.
use Rattle.std.proofs.Common.{refl, ℕ, List}
use Rattle.alma_ir.specs.Tree.{Program}
use Rattle.alma_mean.specs.Meaning.{Level, ev_stmts}
use Rattle.alma_mean.specs.Laws.{TurnsAgree}

-- both sides compute to one term
pub turns_agree : (p : Program) (input : List ℕ) (below : Level) → TurnsAgree p input below
unfolding ev_stmts
turns_agree p input below = record {
  while = λ t x s. refl;
  repeat = λ t x s. refl;
  for = λ d range counter limit from to by body s. refl;
  some = λ d range counter limit from to by body s. refl;
}
