-- How the list of tokens grows.
use Rattle.std.proofs.Common.{◌≡◌, ◌≤◌, ◌<◌, ℕ, List, [], ◌∷◌, ◌++◌, length, refl, ap, sym, ◌∙◌, subst, arith, append_assoc, length-append}
use Rattle.std.proofs.lemmas.List.{append-nil, map-append}
use Rattle.std.specs.Prelude.{map}
use Rattle.alma_base.specs.declared.fault.LexFault.{LexFault}
use Rattle.alma_scan.specs.declared.scanner.Token.{Token}
use Rattle.alma_scan.specs.Comments.{Gap}
use Rattle.alma_scan.specs.Spellings.{Spells}
use Rattle.alma_scan.specs.Tokens.{Lexeme, IsToken, HasToken, HasTokens}
use Rattle.alma_scan.specs.Faults.{HasFault}
use Rattle.alma_scan.specs.Scanned.{lexeme, lexemes}
use Rattle.alma_scan.proofs.Gaps.{gap_shorter}
use Rattle.alma_scan.proofs.Spelled.{spells_some}

-- a token has a byte
token_some : (t : Lexeme) (rest : List ℕ) → IsToken t.kind t.text rest → (text : List ℕ) → t.text ≡ text → 1 ≤ length text
token_some t rest h [] e = absurd (spells_some t.kind (subst (Spells t.kind) e h.spelled))
token_some t rest h (b ∷ text) e = omega arith

-- behind a token less is left
pub token_shorter : (size : ℕ) (bytes : List ℕ) (t : Lexeme) (rest : List ℕ) → HasToken size bytes t rest → length rest < length bytes
token_shorter size bytes t rest h =
    let gap = gap_shorter h.gap in
    let some = token_some t rest h.is_token t.text refl in
    omega (arith, gap, some, length-append t.text rest)

-- the tokens found are the first of the source, of which the rest is left
pub record Found (size : ℕ) (found : List Lexeme) (source rest : List ℕ) : Type 0 where
  pub sound : (tokens : List Lexeme) (end : List ℕ) → HasTokens size rest tokens end → HasTokens size source (found ++ tokens) end

-- at the start all is left
pub found_none : (size : ℕ) (source : List ℕ) → Found size [] source source
found_none size source = record { sound = λ tokens end h. h }

-- one more token
pub found_next : (size : ℕ) (found : List Lexeme) (source rest after : List ℕ) (t : Lexeme) → Found size found source rest
    → HasToken size rest t after
    → Found size (found ++ t ∷ []) source after
found_next size found source rest after t f h = record {
  sound = λ tokens end k. subst (λ (z : List Lexeme). HasTokens size source z end) (sym (append_assoc found (t ∷ []) tokens))
      (f.sound (t ∷ tokens) end (after, h, k));
}

-- no more tokens
pub found_all : (size : ℕ) (found : List Lexeme) (source rest end : List ℕ) → Found size found source rest → Gap rest end
    → HasTokens size source found end
found_all size found source rest end f g = subst (λ (z : List Lexeme). HasTokens size source z end) (append-nil found) (f.sound [] end g)

-- a fault behind the tokens
pub found_fault : (size : ℕ) (found : List Lexeme) (source rest : List ℕ) (fault : LexFault) (at : ℕ) → Found size found source rest
    → HasFault size rest [] fault at
    → HasFault size source found fault at
found_fault size found source rest fault at f h = record {
  rest = h.rest;
  front = found_all size found source rest h.rest f h.front;
  is_fault = h.is_fault;
  place = h.place;
}

-- the list as the code has it
pub found_push : (size : ℕ) (before after : List Token) (token : Token) (source rest left : List ℕ) → after ≡ before ++ token ∷ []
    → Found size (lexemes before) source rest
    → HasToken size rest (lexeme token) left → Found size (lexemes after) source left
found_push size before after token source rest left e f h =
    let more = ap (map lexeme) e ∙ map-append lexeme before (token ∷ []) in
    subst (λ (z : List Lexeme). Found size z source left) (sym more) (found_next size (lexemes before) source rest left (lexeme token) f h)
