-- The tokens of a source are no more than its bytes, and so are the bytes of their texts.
use Rattle.std.proofs.Common.{◌≡◌, ℕ, zero, suc, ◌+◌, ◌≤◌, List, [], ◌∷◌, ◌++◌, length, arith}
use Rattle.std.proofs.lemmas.List.{length-append}
use Rattle.alma_tree.specs.declared.kind.Kind.{Kind}
use Rattle.alma_scan.specs.Comments.{Closes, here, byte, nested, Gap, none, blank, comment}
use Rattle.alma_scan.specs.Spellings.{Spells, name, number, literal, symbol, reserved}
use Rattle.alma_scan.specs.Tokens.{Lexeme, HasTokens, Tokens}
use Rattle.alma_resolved.proofs.Weights.{total}
use Rattle.alma_resolved.proofs.LoopSlots.{ones}
use Rattle.alma_resolved.proofs.Printing.{sizes}

-- ---- gaps and tokens

closes_less : {bytes rest : List ℕ} → Closes bytes rest → length rest ≤ length bytes
closes_less (here rest) = omega arith
closes_less (byte b bytes rest o c h) = omega (arith, closes_less h)
closes_less (nested bytes inner rest h g) = omega (arith, closes_less h, closes_less g)

gap_less : {bytes rest : List ℕ} → Gap bytes rest → length rest ≤ length bytes
gap_less (none rest) = omega arith
gap_less (blank b bytes rest e h) = omega (arith, gap_less h)
gap_less (comment bytes after rest h g) = omega (arith, closes_less h, gap_less g)

-- a token has at least one byte
spelled_some : (kind : Kind) (text : List ℕ) → Spells kind text → 1 ≤ length text
spelled_some kind [] (name k w l) = absurd w
spelled_some kind [] (number k d v) = absurd d
spelled_some kind [] (literal k l) = absurd (let bad : [] ≡ l.0 ∷ (l.1 ++ l.0 ∷ []) = l.2 in cc)
spelled_some kind [] (symbol l) = absurd (cc)
spelled_some kind [] (reserved l) = absurd (cc)
spelled_some kind (b ∷ bytes) h = omega arith

-- ---- as many tokens as the count of ones

total_ones : (n : ℕ) → total ones n ≡ n
total_ones zero = omega arith
total_ones (suc n) = omega (arith, total_ones n)

tokens_few : (size : ℕ) (bytes : List ℕ) (tokens : List Lexeme) (rest : List ℕ) → HasTokens size bytes tokens rest
    → length tokens + length rest ≤ length bytes
tokens_few size bytes [] rest h = omega (arith, gap_less h)
tokens_few size bytes (t ∷ ts) rest h =
    omega (
      arith,
      gap_less h.1.gap,
      length-append t.text h.0,
      spelled_some t.kind t.text h.1.is_token.spelled,
      tokens_few size h.0 ts rest h.2,
    )

-- as many leaves as bytes
pub ones_within : (source : List ℕ) (tokens : List Lexeme) → Tokens source tokens → total ones (length tokens) ≤ length source
ones_within source tokens h = omega (arith, total_ones (length tokens), tokens_few (length source) source tokens [] h)

-- ---- the bytes of texts

total_front : (W : ℕ → ℕ) (n : ℕ) → total W (suc n) ≡ W 0 + total (λ i. W (suc i)) n
total_front W zero = omega arith
total_front W (suc n) = omega (arith, total_front W n)

texts_few : (size : ℕ) (bytes : List ℕ) (tokens : List Lexeme) (rest : List ℕ) → HasTokens size bytes tokens rest
    → total (sizes tokens) (length tokens) + length rest ≤ length bytes
texts_few size bytes [] rest h = omega (arith, gap_less h)
texts_few size bytes (t ∷ ts) rest h =
    let front : total (sizes (t ∷ ts)) (suc (length ts)) ≡ length t.text + total (sizes ts) (length ts) =
    total_front (sizes (t ∷ ts)) (length ts) in
    omega (arith, front, gap_less h.1.gap, length-append t.text h.0, texts_few size h.0 ts rest h.2)

-- the texts of all tokens stand in the source
pub sizes_within : (source : List ℕ) (tokens : List Lexeme) → Tokens source tokens → total (sizes tokens) (length tokens) ≤ length source
sizes_within source tokens h = omega (arith, texts_few (length source) source tokens [] h)
