-- How reading some short lists of kinds ends.
use Rattle.std.specs.Prelude.{◌≡◌, ℕ, zero, suc, true, List, [], ◌∷◌}
use Rattle.alma_tree.specs.declared.kind.Kind.{Kind}
use Rattle.alma_tree.specs.declared.kind.Kind.TheVariants as kinds
use Rattle.alma_grammar.specs.Parts.{whole}
use Rattle.alma_grammar.specs.Reading.{reading, End, done, unexpected, too_deep}

-- MODULE Name ; BEGIN and then these
abbrev pub behind_begin : List Kind → List Kind
behind_begin ks = kinds.Module ∷ kinds.Name ∷ kinds.Semicolon ∷ kinds.Begin ∷ ks

-- END Name .
abbrev pub ending : List Kind
ending = kinds.End ∷ kinds.Name ∷ kinds.Dot ∷ []

-- how reading ends where these kinds are to be a whole program
abbrev pub read_whole : List Kind → End
read_whole ks = reading true ks 0 whole

-- one kind, so many times, and then these
abbrev pub many : Kind → ℕ → List Kind → List Kind
many k zero ks = ks
many k (suc n) ks = k ∷ many k n ks

-- how reading some short lists ends: programs, and lists with a token too few, too many or wrong
pub record ExamplesAreReadSo : Type 0 where
  -- MODULE A; END A.
  pub empty_module : read_whole (kinds.Module ∷ kinds.Name ∷ kinds.Semicolon ∷ ending) ≡ done
  -- MODULE A; BEGIN EITHER a[1] := 2 ORELSE p(x, -y) END END A.
  pub choice : read_whole (behind_begin
      (kinds.Either ∷ kinds.Name ∷ kinds.OpenBracket ∷ kinds.Number ∷ kinds.CloseBracket ∷ kinds.Assign ∷ kinds.Number
      ∷ kinds.Orelse ∷ kinds.Name ∷ kinds.OpenParen ∷ kinds.Name ∷ kinds.Comma ∷ kinds.Minus ∷ kinds.Name ∷ kinds.CloseParen ∷ kinds.End
      ∷ ending)) ≡ done
  -- MODULE A; BEGIN WRITE(
  pub no_more : read_whole (behind_begin (kinds.Write ∷ kinds.OpenParen ∷ [])) ≡ unexpected []
  -- MODULE A; BEGIN x := END A.
  pub no_value : read_whole (behind_begin (kinds.Name ∷ kinds.Assign ∷ ending)) ≡ unexpected ending
  -- MODULE A; BEGIN x = y = z END A.
  pub two_relations : read_whole (behind_begin (kinds.Name ∷ kinds.Equal ∷ kinds.Name ∷ kinds.Equal ∷ kinds.Name ∷ ending))
      ≡ unexpected (kinds.Equal ∷ kinds.Name ∷ ending)
  -- MODULE A; BEGIN NOT NOT x END A.
  pub two_nots : read_whole (behind_begin (kinds.Not ∷ kinds.Not ∷ kinds.Name ∷ ending)) ≡ unexpected (kinds.Not ∷ kinds.Name ∷ ending)
  -- MODULE A; END.
  pub no_name : read_whole (kinds.Module ∷ kinds.Name ∷ kinds.Semicolon ∷ kinds.End ∷ kinds.Dot ∷ []) ≡ unexpected (kinds.Dot ∷ [])
  -- MODULE A; END A. .
  pub second_dot : read_whole (kinds.Module ∷ kinds.Name ∷ kinds.Semicolon ∷ kinds.End ∷ kinds.Name ∷ kinds.Dot ∷ kinds.Dot ∷ [])
      ≡ unexpected (kinds.Dot ∷ [])
  -- 99 parentheses, and 100
  pub deep : read_whole (behind_begin (many kinds.OpenParen 99 (kinds.Name ∷ many kinds.CloseParen 99 ending))) ≡ done
  pub deeper : read_whole (behind_begin (many kinds.OpenParen 100 (kinds.Name ∷ many kinds.CloseParen 100 ending)))
      ≡ too_deep (kinds.OpenParen ∷ kinds.Name ∷ many kinds.CloseParen 100 ending)
