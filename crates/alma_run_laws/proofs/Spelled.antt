-- The object of code that implements a program spells code of the program.
use Rattle.std.proofs.Common.{◌≡◌, ℕ, List, sym, subst}
use Rattle.std.specs.Prelude.{None}
use Rattle.alma_ir.specs.Tree.{Program}
use Rattle.alma_code.specs.Plain.{PlainCode}
use Rattle.alma_code.specs.Rules.{code_fault}
use Rattle.alma_code_laws.proofs.Verdicts.{sound_where_no_fault}
use Rattle.alma_object_format.specs.Object.{IsObject}
use Rattle.alma_object.specs.Fields.{FitsFields}
use Rattle.alma_object.proofs.Clean.{object_clean}
use Rattle.alma_object.proofs.Again.{code_again}
use Rattle.alma_verify.specs.Bytes.{object_code}
use Rattle.alma_lower.specs.CodeFor.{IsCodeFor}
use Rattle.alma_run_laws.specs.Stored.{SpellsCodeOf}

-- the object of a code that fits is read back as that code
pub spells_code : (p : Program) (code : PlainCode) (bytes : List ℕ) → IsCodeFor p code → IsObject code bytes → FitsFields code
    → SpellsCodeOf p bytes
spells_code p code bytes is_code is fits =
    let again : code ≡ object_code bytes = sym (code_again code bytes is fits) in
    record {
      clean = object_clean code bytes is fits;
      object = subst (λ (c : PlainCode). IsObject c bytes) again is;
      code = subst (IsCodeFor p) again is_code;
    }

-- its code keeps the rules
pub spelled_sound : (p : Program) (bytes : List ℕ) → SpellsCodeOf p bytes → code_fault (object_code bytes) ≡ None
spelled_sound p bytes is = (sound_where_no_fault (object_code bytes) is.code.sound.table).0 is.code.sound
