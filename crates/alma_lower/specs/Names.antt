-- What code keeps of the names of its program.
use Rattle.std.specs.Prelude.{◌≡◌, map}
use Rattle.alma_ir.specs.Tree.{Program}
use Rattle.alma_code.specs.Plain.{PlainCode}
pub use Rattle.alma_lower_templates.specs.Compiled.{global_named}

-- the variables of the code, with their slots and cells, are those of the program, and its routines have their names
pub record KeepsNames (code : PlainCode) (p : Program) : Type 0 where
  pub variables : code.globals ≡ map global_named p.globals
  pub routines : map (λ r. r.name) code.routines ≡ map (λ r. r.name) p.routines
