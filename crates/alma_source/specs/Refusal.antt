-- Which sources are programs of the language, and which are refused, with which fault and where.
use Rattle.std.specs.Prelude.{◌≡◌, ◌≤◌, ℕ, zero, suc, List, [], ◌∷◌, length, Some}
use Rattle.alma_base.specs.Limits.{depth_limit}
use Rattle.alma_base.specs.declared.fault.CheckFault.{CheckFault}
use Rattle.alma_base.specs.declared.fault.SyntaxFault.{SyntaxFault}
use Rattle.alma_base.specs.declared.place.Place.{Place}
use Rattle.alma_tree.specs.declared.module.Module.{Module}
use Rattle.alma_tree.specs.Depth.{depth}
use Rattle.alma_ir.specs.Tree.{Program}
use Rattle.alma_rules.specs.View.{view_module}
use Rattle.alma_rules.specs.Modules.{broken_rules, resolution, check_fault, first_token_of}
use Rattle.alma_resolved.specs.Whole.{kinds_in, IsTreeOf}
use Rattle.alma_scan.specs.Tokens.{Lexeme, Tokens}
use Rattle.alma_scan.specs.Faults.{FaultAt}
use Rattle.alma_scan.specs.Places.{line_at, column_at}
use Rattle.alma_parse.specs.declared.error.ParseError.TheVariants as parse_error
use Rattle.alma_parse.specs.Refusals.{Refuses}
use Rattle.alma_source.specs.declared.fault.SourceFault.{SourceFault}
use Rattle.alma_source.specs.declared.fault.SourceFault.TheVariants.{Lex, Syntax, Check}
use Rattle.alma_source.specs.declared.stop.SourceStop.{SourceStop}
use Rattle.alma_source.specs.declared.stop.SourceStop.TheVariants as stops

-- the offset of the token of this index; where there is none, that of the end of a source of this size
abbrev pub offset_of : (size : ℕ) → List Lexeme → (index : ℕ) → ℕ
offset_of size [] index = size
offset_of size (token ∷ tokens) zero = token.start
offset_of size (token ∷ tokens) (suc index) = offset_of size tokens index

-- the source has these tokens, and they spell this tree, which is not too deep
pub record IsParsed (source : List ℕ) (tokens : List Lexeme) (tree : Module) : Type 0 where
  pub whole : IsTreeOf source tokens tree
  pub shallow : depth (kinds_in tokens) ≤ depth_limit

-- the source is a program: no rule is broken in its tree, and this is the resolved program
pub record IsProgramOf (source : List ℕ) (p : Program) : Type 0 where
  pub tokens : List Lexeme
  pub tree : Module
  pub parsed : IsParsed source tokens tree
  pub unbroken : broken_rules source tokens (view_module tree) ≡ []
  pub program : resolution source tokens (view_module tree) ≡ Some p

-- the source has tokens, and the parser refuses the one at this offset, or their end
pub record SyntaxFaultAt (source : List ℕ) (fault : SyntaxFault) (offset : ℕ) : Type 0 where
  pub tokens : List Lexeme
  pub index : ℕ
  pub scanned : Tokens source tokens
  pub refused : Refuses (parse_error.Syntax fault index) (kinds_in tokens)
  pub place : offset ≡ offset_of (length source) tokens index

-- the source has a tree, and this is the least of the broken rules, at the first token of its node
pub record CheckFaultAt (source : List ℕ) (fault : CheckFault) (offset : ℕ) : Type 0 where
  pub tokens : List Lexeme
  pub tree : Module
  pub node : ℕ
  pub parsed : IsParsed source tokens tree
  pub least : check_fault source tokens (view_module tree) ≡ Some (record { node = node; fault = fault })
  pub place : offset ≡ offset_of (length source) tokens (first_token_of (view_module tree) node)

-- the source is refused for the fault at this offset: the scanner's, that of the parser behind it, or that of the check behind both
abbrev pub IsRefused : (source : List ℕ) → SourceFault → (offset : ℕ) → Type 0
IsRefused source (Lex fault) offset = FaultAt source fault offset
IsRefused source (Syntax fault) offset = SyntaxFaultAt source fault offset
IsRefused source (Check fault) offset = CheckFaultAt source fault offset

-- the source is refused for this fault at this offset, and for no other
pub record IsOnlyFault (source : List ℕ) (fault : SourceFault) (offset : ℕ) : Type 0 where
  pub refused : IsRefused source fault offset
  pub only : (other : SourceFault) (place : ℕ) → IsRefused source other place → (fault ≡ other) × (offset ≡ place)

-- a fault of tokens or of syntax
abbrev pub IsOfGrammar : SourceFault → Type 0
IsOfGrammar (Lex fault) = Unit {0}
IsOfGrammar (Syntax fault) = Unit {0}
IsOfGrammar (Check fault) = ⊥

-- the line and the column of an offset
abbrev pub place_of : (source : List ℕ) → (offset : ℕ) → Place
place_of source offset = record { line = line_at source offset; column = column_at source offset }

-- what stops a source: its refusal; want of memory is free
abbrev pub IsStopOf : (source : List ℕ) → SourceStop → Type 0
IsStopOf source (stops.Refused fault offset) = IsRefused source fault offset
IsStopOf source stops.Memory = Unit {0}
