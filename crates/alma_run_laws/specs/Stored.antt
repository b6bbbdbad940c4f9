-- What is stored of the code of a program.
use Rattle.std.specs.Prelude.{◌≡◌, ℕ, List, None}
use Rattle.alma_ir.specs.Tree.{Program}
use Rattle.alma_object_format.specs.Object.{IsObject}
use Rattle.alma_object_format.specs.Walk.{object_fault}
use Rattle.alma_verify.specs.Bytes.{object_code}
use Rattle.alma_lower.specs.CodeFor.{IsCodeFor}

-- the bytes are an object without a fault, and the code that is read from them is such code of the program
pub record SpellsCodeOf (p : Program) (bytes : List ℕ) : Type 0 where
  pub clean : object_fault bytes ≡ None
  pub object : IsObject (object_code bytes) bytes
  pub code : IsCodeFor p (object_code bytes)
