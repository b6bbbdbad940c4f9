-- Where a program reads the input. (Where a code does: alma_code's Reads.)
use Rattle.std.specs.Prelude.{Bool, true, false}
use Rattle.std.specs.List.{list_any}
use Rattle.alma_ir.specs.Tree.{Program, Read}
use Rattle.alma_ir.specs.Phrases.{Phrase, StmtPhrase}
use Rattle.alma_lower_sound.specs.Entries.{program_phrases}

-- whether a phrase is a READ
abbrev pub is_read_phrase : Phrase → Bool
is_read_phrase (StmtPhrase (Read d how range)) = true
is_read_phrase _ = false

-- whether the program holds a READ
abbrev pub program_reads : Program → Bool
program_reads p = list_any is_read_phrase (program_phrases p)
