-- The name of each fault, as it is written after the place or the word `fault`.
use Rattle.std.specs.Prelude.{List, ℕ, codes}
use Rattle.alma_base.specs.declared.fault.LexFault.{LexFault}
use Rattle.alma_base.specs.declared.fault.LexFault.TheVariants as lex_fault
use Rattle.alma_base.specs.declared.fault.SyntaxFault.{SyntaxFault}
use Rattle.alma_base.specs.declared.fault.SyntaxFault.TheVariants as syntax_fault
use Rattle.alma_base.specs.declared.fault.CheckFault.{CheckFault}
use Rattle.alma_base.specs.declared.fault.CheckFault.TheVariants as check_fault
use Rattle.alma_base.specs.declared.fault.RunFault.{RunFault}
use Rattle.alma_base.specs.declared.fault.RunFault.TheVariants as run_fault

-- the name of a lex fault
abbrev pub lex_fault_text : LexFault → List ℕ
lex_fault_text lex_fault.BadByte = codes "BadByte"
lex_fault_text lex_fault.OpenComment = codes "OpenComment"
lex_fault_text lex_fault.OpenString = codes "OpenString"
lex_fault_text lex_fault.NumberTooLarge = codes "NumberTooLarge"

-- the name of a syntax fault
abbrev pub syntax_fault_text : SyntaxFault → List ℕ
syntax_fault_text syntax_fault.Unexpected = codes "Unexpected"
syntax_fault_text syntax_fault.TooDeep = codes "TooDeep"

-- the name of a check fault
abbrev pub check_fault_text : CheckFault → List ℕ
check_fault_text check_fault.Undeclared = codes "Undeclared"
check_fault_text check_fault.Redeclared = codes "Redeclared"
check_fault_text check_fault.NameMismatch = codes "NameMismatch"
check_fault_text check_fault.NotType = codes "NotType"
check_fault_text check_fault.NotConst = codes "NotConst"
check_fault_text check_fault.NotVariable = codes "NotVariable"
check_fault_text check_fault.NotProcedure = codes "NotProcedure"
check_fault_text check_fault.NotTest = codes "NotTest"
check_fault_text check_fault.TypeMismatch = codes "TypeMismatch"
check_fault_text check_fault.ArgCount = codes "ArgCount"
check_fault_text check_fault.NotDesignator = codes "NotDesignator"
check_fault_text check_fault.ModeType = codes "ModeType"
check_fault_text check_fault.IndexType = codes "IndexType"
check_fault_text check_fault.NotArray = codes "NotArray"
check_fault_text check_fault.NotRecord = codes "NotRecord"
check_fault_text check_fault.NoField = codes "NoField"
check_fault_text check_fault.ConstRange = codes "ConstRange"
check_fault_text check_fault.LabelTwice = codes "LabelTwice"
check_fault_text check_fault.ReturnForm = codes "ReturnForm"
check_fault_text check_fault.JumpOut = codes "JumpOut"
check_fault_text check_fault.NestedProcedure = codes "NestedProcedure"
check_fault_text check_fault.BadWrite = codes "BadWrite"
check_fault_text check_fault.BadRead = codes "BadRead"
check_fault_text check_fault.TooLarge = codes "TooLarge"

-- the name of a run fault
abbrev pub run_fault_text : RunFault → List ℕ
run_fault_text run_fault.Unknown = codes "Unknown"
run_fault_text run_fault.Range = codes "Range"
run_fault_text run_fault.Index = codes "Index"
run_fault_text run_fault.Overflow = codes "Overflow"
run_fault_text run_fault.ZeroDivide = codes "ZeroDivide"
run_fault_text run_fault.NoCase = codes "NoCase"
run_fault_text run_fault.NoReturn = codes "NoReturn"
run_fault_text run_fault.ReadRange = codes "ReadRange"
run_fault_text run_fault.DepthFull = codes "DepthFull"
run_fault_text run_fault.CellsFull = codes "CellsFull"
