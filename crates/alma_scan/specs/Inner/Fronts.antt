-- What stands at the front of bytes.
use Rattle.std.specs.Prelude.{◌≡◌, ℕ, false, List, [], ◌∷◌, ◌++◌, length, Option, None, Some, Result, Ok, Err}
use Rattle.alma_base.specs.Bytes.{is_letter}
use Rattle.alma_base.specs.Reading.{is_blank, is_digit}
use Rattle.alma_base.specs.declared.fault.LexFault.{LexFault}
use Rattle.alma_scan.specs.declared.front.Front.{Front}
use Rattle.alma_scan.specs.Bytes.{is_quote, Stops}
use Rattle.alma_scan.specs.Comments.{Closes}
use Rattle.alma_scan.specs.Spellings.{look_up, symbols}
use Rattle.alma_scan.specs.Tokens.{IsToken}
use Rattle.alma_scan.specs.Faults.{IsFault}

-- the bytes begin with no blank and with no whole comment
pub record IsGapEnd (bytes : List ℕ) : Type 0 where
  pub no_blank : Stops is_blank bytes
  pub no_comment : (inner rest : List ℕ) → bytes ≡ 40 ∷ 42 ∷ inner → Closes inner rest → ⊥

-- the bytes begin with this token
pub record IsFrontOf (bytes : List ℕ) (front : Front) : Type 0 where
  pub whole : bytes ≡ front.text.now ++ front.rest.now
  pub token : IsToken front.kind front.text.now front.rest.now

-- the bytes begin with a token, or a fault stands there
abbrev pub IsFront : List ℕ → Result Front LexFault → Type 0
IsFront bytes (Ok front) = IsFrontOf bytes front
IsFront bytes (Err fault) = IsFault fault bytes

-- the bytes begin with a byte that begins no word, no number and no literal
abbrev pub IsOtherFirst : List ℕ → Type 0
IsOtherFirst [] = ⊥
IsOtherFirst (b ∷ bytes) = (is_letter b ≡ false) × (is_digit b ≡ false) × (is_quote b ≡ false)

-- the first bytes, so many, are this symbol
pub record IsSymbol (bytes : List ℕ) (size : ℕ) (front : Front) : Type 0 where
  pub whole : bytes ≡ front.text.now ++ front.rest.now
  pub length_is : length front.text.now ≡ size
  pub kind : look_up symbols front.text.now ≡ Some front.kind

-- the first bytes, so many, are a symbol; or they are none
abbrev pub IsSymbolAt : List ℕ → ℕ → Option Front → Type 0
IsSymbolAt bytes size (Some front) = IsSymbol bytes size front
IsSymbolAt bytes size None = (text rest : List ℕ) → bytes ≡ text ++ rest → length text ≡ size → look_up symbols text ≡ None
