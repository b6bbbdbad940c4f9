-- What the scanner's calls show.
use Rattle.std.specs.Prelude.{ℕ, List, map}
use Rattle.alma_scan.specs.declared.scanner.Token.{Token}
use Rattle.alma_scan.specs.declared.scanner.ScanError.{ScanError}
use Rattle.alma_scan.specs.declared.scanner.ScanError.TheVariants.{Lex, Memory}
use Rattle.alma_scan.specs.Tokens.{Lexeme}
use Rattle.alma_scan.specs.Faults.{FaultAt}

-- the plain token that one with borrowed text stands for
abbrev pub lexeme : Token → Lexeme
lexeme token = record { kind = token.kind; text = token.text.now; start = token.start }

-- the plain tokens of a list
abbrev pub lexemes : List Token → List Lexeme
lexemes tokens = map lexeme tokens

-- the fault of an error is that of the source; want of memory is free
abbrev pub IsScanErrorOf : List ℕ → ScanError → Type 0
IsScanErrorOf source (Lex fault at) = FaultAt source fault at
IsScanErrorOf source Memory = Unit {0}
