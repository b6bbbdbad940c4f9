-- Marks of the routines of a module.
use Rattle.std.specs.Prelude.{◌≡◌, ℕ, ◌<◌, Bool, false, List, length, get_or, nat_eq}
use Rattle.std.specs.List.{list_any}
use Rattle.alma_ir.specs.Tree.{Routine, Program, routine_at}
use Rattle.alma_join.specs.Joined.{is_bare}

-- exactly the routines with one inside are marked
pub record MarksOuter (routines : List Routine) (marks : List Bool) : Type 0 where
  pub long : length marks ≡ length routines
  pub at : (r : ℕ) → r < length routines → get_or marks r false ≡ list_any (λ x. nat_eq x.outer r) routines

-- exactly the bare routines are marked
pub record MarksBare (p : Program) (marks : List Bool) : Type 0 where
  pub long : length marks ≡ length p.routines
  pub at : (r : ℕ) → r < length p.routines → get_or marks r false ≡ is_bare p r (routine_at p r)
