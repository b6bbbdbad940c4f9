-- The tokens of a source.
use Rattle.std.specs.Prelude.{◌≡◌, ◌≤◌, ◌+◌, ℕ, false, List, [], ◌∷◌, ◌++◌, length, slice_range}
use Rattle.alma_base.specs.Reading.{is_digit}
use Rattle.alma_tree.specs.declared.kind.Kind.{Kind}
use Rattle.alma_tree.specs.declared.kind.Kind.TheVariants as kinds
use Rattle.alma_scan.specs.Bytes.{Stops}
use Rattle.alma_scan.specs.Comments.{Gap, opens}
use Rattle.alma_scan.specs.Spellings.{Spells}

-- a token: its kind, its bytes, and the offset of the first of these
pub record Lexeme : Type 0 where
  pub kind : Kind
  pub text : List ℕ
  pub start : ℕ

-- a token of this kind has this text, with the rest of the source behind it
pub record IsToken (kind : Kind) (text rest : List ℕ) : Type 0 where
  pub spelled : Spells kind text
  pub longest : (other : Kind) (longer after : List ℕ) → text ++ rest ≡ longer ++ after → Spells other longer → length longer ≤ length text
  pub no_digit : kind ≡ kinds.Number → Stops is_digit rest
  pub no_comment : opens (text ++ rest) ≡ false

-- the last bytes of a source of this size begin, behind a gap, with a token, and then the rest stands
pub record HasToken (size : ℕ) (bytes : List ℕ) (token : Lexeme) (rest : List ℕ) : Type 0 where
  pub gap : Gap bytes (token.text ++ rest)
  pub is_token : IsToken token.kind token.text rest
  pub start : token.start + length (token.text ++ rest) ≡ size

-- the last bytes of a source of this size are these tokens in order, with gaps before, between and behind them, and then the rest stands
abbrev pub HasTokens : (size : ℕ) → List ℕ → List Lexeme → List ℕ → Type 0
HasTokens size bytes [] rest = Gap bytes rest
HasTokens size bytes (token ∷ tokens) rest = (after : List ℕ) × HasToken size bytes token after × HasTokens size after tokens rest

-- the source is these tokens in order, with gaps before, between and behind them
abbrev pub Tokens : List ℕ → List Lexeme → Type 0
Tokens source tokens = HasTokens (length source) source tokens []

-- the token's text is the slice of the source at its start
pub record IsSlice (source : List ℕ) (token : Lexeme) : Type 0 where
  pub text : slice_range source token.start (token.start + length token.text) ≡ token.text
  pub within : token.start + length token.text ≤ length source
