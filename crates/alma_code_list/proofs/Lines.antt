-- A line put together from its words.
use Rattle.std.proofs.Common.{◌≡◌, ◌∙◌, ℕ, List, [], ◌∷◌, ◌++◌, map, flat_map, append_assoc, ap, sym}
use Rattle.std.proofs.lemmas.List.{append-nil}
use Rattle.std.specs.Fmt.{decimal}
use Rattle.alma_code.specs.ListText.{text_line}
use Rattle.alma_code_list.specs.Spaces.{behind_space}

-- a line of a word and others
pub line_of : {X : Type 0} (v : X → List ℕ) (word : List ℕ) (words : List X)
    → text_line (word ∷ map v words) ≡ (word ++ flat_map (λ x. 32 ∷ v x) words) ++ 10 ∷ []
line_of v word [] = ap (λ (z : List ℕ). z ++ 10 ∷ []) (sym (append-nil word))
line_of v word (x ∷ words) =
    ap (λ (z : List ℕ). word ++ 32 ∷ z) (line_of v (v x) words)
    ∙ sym (append_assoc word (flat_map (λ y. 32 ∷ v y) (x ∷ words)) (10 ∷ []))

-- one piece behind another
pub chain : (old mid new x y : List ℕ) → mid ≡ old ++ x → new ≡ mid ++ y → new ≡ old ++ (x ++ y)
chain old mid new x y e f = f ∙ ap (λ (z : List ℕ). z ++ y) e ∙ append_assoc old x y

-- a line that was put together of a word and others
pub line_made : {X : Type 0} (v : X → List ℕ) (old first second text word : List ℕ) (words : List X) → first ≡ old ++ word
    → second ≡ first ++ flat_map (λ x. 32 ∷ v x) words → text ≡ second ++ 10 ∷ [] → text ≡ old ++ text_line (word ∷ map v words)
line_made v old first second text word words e f g =
    let pieces : List ℕ = flat_map (λ x. 32 ∷ v x) words in
    chain old first text word (pieces ++ 10 ∷ []) e (chain first second text pieces (10 ∷ []) f g)
    ∙ ap (λ (z : List ℕ). old ++ z) (sym (append_assoc word pieces (10 ∷ [])) ∙ sym (line_of v word words))

pub line_put : (old first second text word : List ℕ) (numbers : List ℕ) → first ≡ old ++ word
    → second ≡ first ++ flat_map behind_space numbers
    → text ≡ second ++ 10 ∷ [] → text ≡ old ++ text_line (word ∷ map decimal numbers)
line_put old first second text word numbers e f g = line_made decimal old first second text word numbers e f g

-- the line of an instruction behind its address
pub instr_put : (old first second text name : List ℕ) (address : ℕ) (numbers : List ℕ) → first ≡ old ++ decimal address
    → second ≡ first ++ 32 ∷ []
    → text ≡ second ++ text_line (name ∷ map decimal numbers) → text ≡ old ++ text_line (decimal address ∷ name ∷ map decimal numbers)
instr_put old first second text name address numbers e f g =
    chain old first text (decimal address) (32 ∷ text_line (name ∷ map decimal numbers)) e
    (chain first second text (32 ∷ []) (text_line (name ∷ map decimal numbers)) f g)
