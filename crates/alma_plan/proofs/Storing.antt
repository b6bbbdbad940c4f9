-- Objects of programs.
use Rattle.std.proofs.Common.{ℕ, List, refl}
use Rattle.alma_code.specs.Plain.{PlainCode}
use Rattle.alma_code.specs.Records.{KeepsCounts, KeepsRecords, KeepsVersion}
use Rattle.alma_ir.specs.Tree.{Program}
use Rattle.alma_object_format.specs.Object.{IsObject, object_bytes}
use Rattle.alma_io.specs.Outside.{StoredFile}
use Rattle.alma_lower.specs.CodeFor.{IsCodeFor}

-- the bytes under the name
abbrev pub stored_as : (name bytes : List ℕ) → StoredFile
stored_as name bytes = record { name = name; bytes = bytes }

-- the object of the code of a program
pub is_object : (p : Program) (code : PlainCode) → IsCodeFor p code → KeepsVersion code → KeepsCounts code → KeepsRecords code
    → IsObject code (object_bytes code)
is_object p code is version counts records =
    record { version = version; counts = counts; records = records; table = is.sound.table; spelled = refl }
