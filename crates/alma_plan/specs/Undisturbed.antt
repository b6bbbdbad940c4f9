-- What a call is given, and that it shows all that is due where nothing fails.
use Rattle.std.specs.Prelude.{◌≡◌, ◌≤◌, true, ℕ, List, length, Some}
use Rattle.alma_base.specs.Limits.{input_limit, source_limit}
use Rattle.alma_io.specs.Files.{Has}
use Rattle.alma_io.specs.Outside.{Become, Outside, Gains}
use Rattle.alma_ir.specs.Tree.{Program}
use Rattle.alma_lower_sound.specs.Reads.{program_reads}
use Rattle.alma_source.specs.Refusal.{IsProgramOf}
use Rattle.alma_plan.specs.Plan.{Due}

-- the file has this source, and where its program reads, this input is left; both are within their lengths
pub record GivesSource (before : Outside) (file source input : List ℕ) : Type 0 where
  pub told : before.files.told file ≡ Has source
  pub source_short : length source ≤ source_limit
  pub left : (p : Program) → IsProgramOf source p → program_reads p ≡ true → before.input.left ≡ Some input
  pub input_short : length input ≤ input_limit

-- the call shows what is due: its status, what out and err gained, and the files, which stay but for one that is stored
pub record ShowsDue (before after : Outside) (status : ℕ) (due : Due) : Type 0 where
  pub status_is : status ≡ due.end.status
  pub out : Gains before.out after.out due.out
  pub err : Gains before.err after.err due.end.text
  pub files : Become before.files after.files due.stored
