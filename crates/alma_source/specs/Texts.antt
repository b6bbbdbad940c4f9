-- What is said of a source that is refused.
use Rattle.std.specs.Prelude.{List, ℕ, ◌++◌, codes, decimal}
use Rattle.alma_base.specs.Fault.{lex_fault_text, syntax_fault_text, check_fault_text}
use Rattle.alma_base.specs.declared.place.Place.{Place}
use Rattle.alma_source.specs.declared.fault.SourceFault.{SourceFault}
use Rattle.alma_source.specs.declared.fault.SourceFault.TheVariants.{Lex, Syntax, Check}

-- the name of a fault for which a source is refused
abbrev pub source_fault_text : SourceFault → List ℕ
source_fault_text (Lex fault) = lex_fault_text fault
source_fault_text (Syntax fault) = syntax_fault_text fault
source_fault_text (Check fault) = check_fault_text fault

-- FILE:LINE:COLUMN: FAULT
abbrev pub refusal_line : (file line column fault : List ℕ) → List ℕ
refusal_line file line column fault = file ++ (codes ":" ++ (line ++ (codes ":" ++ (column ++ (codes ": " ++ (fault ++ codes "\n"))))))

-- the line of a refusal
abbrev pub refusal_text : (file : List ℕ) → SourceFault → Place → List ℕ
refusal_text file fault place = refusal_line file (decimal place.line) (decimal place.column) (source_fault_text fault)
