-- The lexical faults of a source.
use Rattle.std.specs.Prelude.{◌≡◌, ◌<◌, ◌+◌, ℕ, true, false, List, [], ◌∷◌, ◌++◌, length}
use Rattle.alma_base.specs.Reading.{is_blank, is_digit}
use Rattle.alma_base.specs.declared.fault.LexFault.{LexFault}
use Rattle.alma_base.specs.declared.fault.LexFault.TheVariants.{BadByte, OpenComment, OpenString, NumberTooLarge}
use Rattle.alma_tree.specs.declared.kind.Kind.{Kind}
use Rattle.alma_scan.specs.Bytes.{is_quote, is_line_end, may_stand_in, AllIn, Stops, value_of}
use Rattle.alma_scan.specs.Comments.{Closes, opens}
use Rattle.alma_scan.specs.Spellings.{Spells, IsDigits, greatest_number}
use Rattle.alma_scan.specs.Tokens.{Lexeme, HasTokens}

-- a comment begins here that does not end
abbrev pub IsOpenComment : List ℕ → Type 0
IsOpenComment bytes = (inner : List ℕ) × (bytes ≡ 40 ∷ 42 ∷ inner) × ((rest : List ℕ) → Closes inner rest → ⊥)

-- the source or its line ends here
abbrev pub EndsLine : List ℕ → Type 0
EndsLine [] = Unit {0}
EndsLine (b ∷ bytes) = is_line_end b ≡ true

-- a literal begins here that meets CR, LF or the end first
pub record IsOpenString (bytes : List ℕ) : Type 0 where
  pub quote : ℕ
  pub inner : List ℕ
  pub rest : List ℕ
  pub whole : bytes ≡ quote ∷ (inner ++ rest)
  pub quoted : is_quote quote ≡ true
  pub inside : AllIn (may_stand_in quote) inner
  pub ends : EndsLine rest

-- a run of digits begins here whose value is no number of the language
pub record IsTooLarge (bytes : List ℕ) : Type 0 where
  pub digits : List ℕ
  pub rest : List ℕ
  pub whole : bytes ≡ digits ++ rest
  pub run : IsDigits digits
  pub ends : Stops is_digit rest
  pub large : greatest_number < value_of digits

-- a byte stands here that is no blank, begins no token and no comment, and is the place of no other fault
pub record IsBadByte (bytes : List ℕ) : Type 0 where
  pub there : bytes ≡ [] → ⊥
  pub no_blank : Stops is_blank bytes
  pub no_token : (kind : Kind) (text rest : List ℕ) → bytes ≡ text ++ rest → Spells kind text → ⊥
  pub no_comment : opens bytes ≡ false
  pub no_string : IsOpenString bytes → ⊥
  pub no_number : IsTooLarge bytes → ⊥

-- the condition of a fault at the place where these bytes begin
abbrev pub IsFault : LexFault → List ℕ → Type 0
IsFault BadByte bytes = IsBadByte bytes
IsFault OpenComment bytes = IsOpenComment bytes
IsFault OpenString bytes = IsOpenString bytes
IsFault NumberTooLarge bytes = IsTooLarge bytes

-- the last bytes of a source of this size have the fault at this offset, behind these tokens
pub record HasFault (size : ℕ) (bytes : List ℕ) (tokens : List Lexeme) (fault : LexFault) (at : ℕ) : Type 0 where
  pub rest : List ℕ
  pub front : HasTokens size bytes tokens rest
  pub is_fault : IsFault fault rest
  pub place : at + length rest ≡ size

-- the source has the fault at this offset, behind tokens, blanks and whole comments
abbrev pub FaultAt : List ℕ → LexFault → ℕ → Type 0
FaultAt source fault at = (tokens : List Lexeme) × HasFault (length source) source tokens fault at
