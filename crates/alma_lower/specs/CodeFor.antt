-- Code of a program.
use Rattle.std.specs.Prelude.{◌≡◌}
use Rattle.alma_ir.specs.Tree.{Program}
use Rattle.alma_code.specs.Plain.{PlainCode}
use Rattle.alma_code.specs.Reads.{code_reads}
use Rattle.alma_code.specs.Records.{latest_version}
use Rattle.alma_code.specs.Rules.{IsSound}
use Rattle.alma_lower_implements.specs.Implements.{Implements}
use Rattle.alma_lower_implements.specs.Values.{KeepsValues}
use Rattle.alma_lower_sound.specs.Reads.{program_reads}
use Rattle.alma_lower.specs.Names.{KeepsNames}

-- the code is sound, implements the program, ends with its values where it succeeds, reads exactly where it does, keeps its names, and is
-- of the latest version
pub record IsCodeFor (p : Program) (code : PlainCode) : Type 0 where
  pub sound : IsSound code
  pub implements : Implements code p
  pub values : KeepsValues code p
  pub reads : code_reads code ≡ program_reads p
  pub names : KeepsNames code p
  pub version : code.version ≡ latest_version
