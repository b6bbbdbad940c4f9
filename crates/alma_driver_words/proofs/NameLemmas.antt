-- Words that are one name of the language.
use Rattle.std.proofs.Common.{◌≡◌, ◌+◌, ◌-◌, ◌∙◌, ℕ, List, [], ◌∷◌, length, take, refl, sym, ap, subst, arith, length-append, ◌↔◌, ◌≢◌}
use Rattle.std.proofs.Common.{IsTrue, nat_eq, true}
use Rattle.std.proofs.lemmas.Bool.{eq-eqb, eqb-true}
use Rattle.std.proofs.lemmas.List.{take_all}
use Rattle.std.specs.Prelude.{slice_range}
use Rattle.alma_base.specs.declared.fault.LexFault.{LexFault}
use Rattle.alma_tree.specs.declared.kind.Kind.{Kind}
use Rattle.alma_tree.specs.declared.kind.Kind.TheVariants as kinds
use Rattle.alma_scan.specs.Comments as gaps
use Rattle.alma_scan.specs.Tokens.{Lexeme, HasToken, Tokens}
use Rattle.alma_scan.specs.Faults.{HasFault}
use Rattle.alma_scan.specs.Unread.{Unread}
use Rattle.alma_scan.proofs.Once.{next_once, token_or_end, token_or_fault}
use Rattle.alma_scan.proofs.Slices.{slices}
use Rattle.alma_driver_words.specs.Words.{IsName}

no_bytes : (bytes : List ℕ) → length bytes ≡ 0 → bytes ≡ []
no_bytes [] e = refl
no_bytes (b ∷ bytes) e = absurd (omega (arith, e))

-- a source of which nothing is read
abbrev pub whole : List ℕ → Unread
whole text = record { size = length text; bytes = text }

-- a token
abbrev token_of : Kind → List ℕ → ℕ → Lexeme
token_of kind text start = record { kind = kind; text = text; start = start }

-- a token of the length of its source is all of it
whole_source : (text : List ℕ) (token : Lexeme) (rest : List ℕ) → HasToken (length text) text token rest → length token.text ≡ length text
    → Tokens text (token ∷ []) × (token ≡ token_of token.kind text 0)
whole_source text token rest h same =
    let sum = length-append token.text rest in
    let start : token.start ≡ 0 = omega (arith, h.start, sum, same) in
    let none : rest ≡ [] = no_bytes rest (omega (arith, h.start, sum, same)) in
    let tokens : Tokens text (token ∷ []) = (rest, h, subst (λ (r : List ℕ). gaps.Gap r []) (sym none) (gaps.none [])) in
    let slice = slices text (token ∷ []) tokens 0 token (omega arith) in
    let size : 0 + length token.text - 0 ≡ length token.text = omega arith in
    let all : token.text ≡ text =
    sym slice.text ∙ ap (λ (s : ℕ). slice_range text s (s + length token.text)) start ∙ ap (λ (n : ℕ). take n text) size
    ∙ take_all (length token.text) text (omega (arith, same)) in
    (tokens, ap (λ (t : List ℕ). token_of token.kind t token.start) all ∙ ap (token_of token.kind text) start)

same_size : (a b : ℕ) → nat_eq a b ≡ true → a ≡ b
same_size a b e = eqb-true a b e

size_same : (a b : ℕ) → a ≡ b → nat_eq a b ≡ true
size_same a b e = eq-eqb a b e

-- a token of kind Name is all of its source where this is one name, and only there
pub name_token : (text : List ℕ) (s : Unread) (token : Lexeme) (rest : List ℕ) → s ≡ whole text → HasToken s.size s.bytes token rest
    → token.kind ≡ kinds.Name
    → IsTrue (nat_eq (length token.text) (length text)) ↔ IsName text
name_token text s token rest e h name =
    let at = subst (λ (u : Unread). HasToken u.size u.bytes token rest) e h in (
      named at,
      λ n. size_same (length token.text) (length text)
          (ap (λ (t : Lexeme). length t.text) (next_once (length text) text token (token_of kinds.Name text 0) rest n.0 at n.1).0),
    ) where
      named : HasToken (length text) text token rest → IsTrue (nat_eq (length token.text) (length text)) → IsName text
      named at same =
          let only = whole_source text token rest at (same_size (length token.text) (length text) same) in
          subst (λ (t : Lexeme). Tokens text (t ∷ [])) (only.1 ∙ ap (λ (k : Kind). token_of k text 0) name) only.0

-- no token of another kind stands where one name does
pub other_token : (text : List ℕ) (s : Unread) (token : Lexeme) (rest : List ℕ) → s ≡ whole text → HasToken s.size s.bytes token rest
    → token.kind ≢ kinds.Name
    → IsName text → ⊥
other_token text s token rest e h other n =
    let at = subst (λ (u : Unread). HasToken u.size u.bytes token rest) e h in
    other (ap (λ (t : Lexeme). t.kind) (next_once (length text) text token (token_of kinds.Name text 0) rest n.0 at n.1).0)

-- one name is no gap
pub name_no_end : (text : List ℕ) (s : Unread) → s ≡ whole text → IsName text → gaps.Gap s.bytes [] → ⊥
name_no_end text s e n gap =
    token_or_end (length text) text (token_of kinds.Name text 0) n.0 n.1 (subst (λ (u : Unread). gaps.Gap u.bytes []) e gap)

-- nor does a fault stand there
pub name_no_fault : (text : List ℕ) (s : Unread) (fault : LexFault) (at : ℕ) → s ≡ whole text → IsName text
    → HasFault s.size s.bytes [] fault at → ⊥
name_no_fault text s fault at e n h =
    token_or_fault (length text) text (token_of kinds.Name text 0) n.0 fault at n.1
    (subst (λ (u : Unread). HasFault u.size u.bytes [] fault at) e h)
