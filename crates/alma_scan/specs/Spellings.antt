-- How each kind of token is spelled.
use Rattle.std.specs.Prelude.{◌≡◌, ◌≤◌, ℕ, true, List, [], ◌∷◌, ◌++◌, Option, None, Some, codes, bytes_eq, if◌then◌else◌}
use Rattle.alma_base.specs.Bytes.{is_letter, is_word_byte}
use Rattle.alma_base.specs.Reading.{is_digit}
use Rattle.alma_tree.specs.declared.kind.Kind.{Kind}
use Rattle.alma_tree.specs.declared.kind.Kind.TheVariants as kinds
use Rattle.alma_scan.specs.Bytes.{is_quote, may_stand_in, AllIn, value_of}

-- a text that is spelled in one way
pub record Spelling : Type 0 where
  pub text : List ℕ
  pub kind : Kind

-- an entry of a table
abbrev pub spelling : List ℕ → Kind → Spelling
spelling text kind = record { text = text; kind = kind }

-- each symbol
abbrev pub symbols : List Spelling
symbols =
    spelling (codes ";") kinds.Semicolon
    ∷ spelling (codes ",") kinds.Comma
    ∷ spelling (codes ".") kinds.Dot
    ∷ spelling (codes "..") kinds.DotDot
    ∷ spelling (codes ":") kinds.Colon
    ∷ spelling (codes ":=") kinds.Assign
    ∷ spelling (codes "(") kinds.OpenParen
    ∷ spelling (codes ")") kinds.CloseParen
    ∷ spelling (codes "[") kinds.OpenBracket
    ∷ spelling (codes "]") kinds.CloseBracket
    ∷ spelling (codes "=") kinds.Equal
    ∷ spelling (codes "#") kinds.Unequal
    ∷ spelling (codes "<>") kinds.Unequal
    ∷ spelling (codes "<") kinds.Less
    ∷ spelling (codes "<=") kinds.LessEq
    ∷ spelling (codes ">") kinds.Greater
    ∷ spelling (codes ">=") kinds.GreaterEq
    ∷ spelling (codes "+") kinds.Plus
    ∷ spelling (codes "-") kinds.Minus
    ∷ spelling (codes "*") kinds.Star
    ∷ spelling (codes "|") kinds.Bar
    ∷ []

-- each reserved word
abbrev pub reserved_words : List Spelling
reserved_words =
    spelling (codes "AND") kinds.And
    ∷ spelling (codes "ARRAY") kinds.Array
    ∷ spelling (codes "BEGIN") kinds.Begin
    ∷ spelling (codes "BY") kinds.By
    ∷ spelling (codes "CASE") kinds.Case
    ∷ spelling (codes "CHR") kinds.Chr
    ∷ spelling (codes "COMMIT") kinds.Commit
    ∷ spelling (codes "CONST") kinds.Const
    ∷ spelling (codes "DIV") kinds.Div
    ∷ spelling (codes "DO") kinds.Do
    ∷ spelling (codes "EITHER") kinds.Either
    ∷ spelling (codes "ELSE") kinds.Else
    ∷ spelling (codes "ELSIF") kinds.Elsif
    ∷ spelling (codes "END") kinds.End
    ∷ spelling (codes "FOR") kinds.For
    ∷ spelling (codes "FORALL") kinds.Forall
    ∷ spelling (codes "IF") kinds.If
    ∷ spelling (codes "KNOWN") kinds.Known
    ∷ spelling (codes "MIX") kinds.Mix
    ∷ spelling (codes "MOD") kinds.Mod
    ∷ spelling (codes "MODULE") kinds.Module
    ∷ spelling (codes "NOT") kinds.Not
    ∷ spelling (codes "OF") kinds.Of
    ∷ spelling (codes "OR") kinds.Or
    ∷ spelling (codes "ORD") kinds.Ord
    ∷ spelling (codes "ORELSE") kinds.Orelse
    ∷ spelling (codes "PROCEDURE") kinds.Procedure
    ∷ spelling (codes "READ") kinds.Read
    ∷ spelling (codes "RECORD") kinds.Record
    ∷ spelling (codes "REPEAT") kinds.Repeat
    ∷ spelling (codes "RETURN") kinds.Return
    ∷ spelling (codes "SOME") kinds.Some
    ∷ spelling (codes "THEN") kinds.Then
    ∷ spelling (codes "TO") kinds.To
    ∷ spelling (codes "TYPE") kinds.Type
    ∷ spelling (codes "UNTIL") kinds.Until
    ∷ spelling (codes "VAR") kinds.Var
    ∷ spelling (codes "WHILE") kinds.While
    ∷ spelling (codes "WRITE") kinds.Write
    ∷ spelling (codes "WRITELN") kinds.Writeln
    ∷ []

-- the kind that a table gives a text
abbrev pub look_up : List Spelling → List ℕ → Option Kind
look_up [] text = None
look_up (entry ∷ table) text = if bytes_eq entry.text text then Some entry.kind else look_up table text

-- a letter or _, and then letters, digits and _
abbrev pub IsWord : List ℕ → Type 0
IsWord [] = ⊥
IsWord (b ∷ bytes) = (is_letter b ≡ true) × AllIn is_word_byte bytes

-- one or more digits
abbrev pub IsDigits : List ℕ → Type 0
IsDigits [] = ⊥
IsDigits (b ∷ bytes) = (is_digit b ≡ true) × AllIn is_digit bytes

-- a quote, bytes that are neither it nor CR nor LF, and the same quote
abbrev pub IsLiteral : List ℕ → Type 0
IsLiteral text = (quote : ℕ) × (inner : List ℕ) × (text ≡ quote ∷ (inner ++ quote ∷ [])) × (is_quote quote ≡ true)
    × AllIn (may_stand_in quote) inner

-- the greatest value of a number
abbrev pub greatest_number : ℕ
greatest_number = 9223372036854775807

-- the text is a spelling of the kind
pub data Spells (kind : Kind) (text : List ℕ) : Type 0 where
  name : kind ≡ kinds.Name → IsWord text → look_up reserved_words text ≡ None → Spells kind text
  number : kind ≡ kinds.Number → IsDigits text → value_of text ≤ greatest_number → Spells kind text
  literal : kind ≡ kinds.Literal → IsLiteral text → Spells kind text
  symbol : look_up symbols text ≡ Some kind → Spells kind text
  reserved : look_up reserved_words text ≡ Some kind → Spells kind text
