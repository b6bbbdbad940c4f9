-- The parts of the texts of refusals.
use Rattle.std.proofs.Common.{◌≡◌, ◌∙◌, ℕ, List, [], ◌++◌, ap, sym, append_assoc}
use Rattle.std.specs.Prelude.{Option, None, Some, codes, decimal}
use Rattle.alma_plan.specs.Plan.{line_of}
use Rattle.alma_plan.specs.Refusals.{with_number}

-- of a line that ends in a number
pub number_parts : (program front text digits end : List ℕ) (number : ℕ) → front ≡ codes ": " → digits ≡ decimal number
    → end ≡ codes "\n"
    → program ++ (front ++ (text ++ (digits ++ (end ++ [])))) ≡ line_of program (text ++ decimal number)
number_parts program front text digits end number f n e =
    ap (λ x. program ++ (x ++ (text ++ (digits ++ (end ++ []))))) f
    ∙ ap (λ x. program ++ (codes ": " ++ (text ++ (x ++ (end ++ []))))) n
    ∙ ap (λ x. program ++ (codes ": " ++ (text ++ (decimal number ++ (x ++ []))))) e
    ∙ ap (λ x. program ++ (codes ": " ++ x)) (sym (append_assoc text (decimal number) (codes "\n")))

-- of a fault of an object without a number
pub numberless_parts : (program front name end fault : List ℕ) (number : Option ℕ) → number ≡ None → front ≡ codes ": object "
    → name ≡ fault → end ≡ codes "\n"
    → program ++ (front ++ (name ++ (end ++ []))) ≡ line_of program (codes "object " ++ with_number fault number)
numberless_parts program front name end fault number none f n e =
    ap (λ x. program ++ (x ++ (name ++ (end ++ [])))) f ∙ ap (λ x. program ++ (codes ": object " ++ (x ++ (end ++ [])))) n
    ∙ ap (λ x. program ++ (codes ": object " ++ (fault ++ (x ++ [])))) e
    ∙ ap (λ k. line_of program (codes "object " ++ with_number fault k)) (sym none)

-- and of one with a number
pub numbered_parts : (program front name middle digits end fault : List ℕ) (number : Option ℕ) (k : ℕ) → number ≡ Some k
    → front ≡ codes ": object " → name ≡ fault
    → middle ≡ codes " " → digits ≡ decimal k → end ≡ codes "\n"
    → program ++ (front ++ (name ++ (middle ++ (digits ++ (end ++ []))))) ≡ line_of program (codes "object " ++ with_number fault number)
numbered_parts program front name middle digits end fault number k some f n m d e =
    ap (λ x. program ++ (x ++ (name ++ (middle ++ (digits ++ (end ++ [])))))) f
    ∙ ap (λ x. program ++ (codes ": object " ++ (x ++ (middle ++ (digits ++ (end ++ [])))))) n
    ∙ ap (λ x. program ++ (codes ": object " ++ (fault ++ (x ++ (digits ++ (end ++ [])))))) m
    ∙ ap (λ x. program ++ (codes ": object " ++ (fault ++ (codes " " ++ (x ++ (end ++ [])))))) d
    ∙ ap (λ x. program ++ (codes ": object " ++ (fault ++ (codes " " ++ (decimal k ++ (x ++ [])))))) e
    ∙ ap (λ x. program ++ (codes ": object " ++ x)) (sym (append_assoc fault (codes " " ++ decimal k) (codes "\n")))
    ∙ ap (λ o. line_of program (codes "object " ++ with_number fault o)) (sym some)

-- of a broken rule
pub rule_parts : (program front rule middle at end : List ℕ) (r a : ℕ) → front ≡ codes ": object Rule " → rule ≡ decimal r
    → middle ≡ codes " " → at ≡ decimal a
    → end ≡ codes "\n"
    → program ++ (front ++ (rule ++ (middle ++ (at ++ (end ++ []))))) ≡ line_of program
    (codes "object Rule " ++ (decimal r ++ (codes " " ++ decimal a)))
rule_parts program front rule middle at end r a f n m d e =
    ap (λ x. program ++ (x ++ (rule ++ (middle ++ (at ++ (end ++ [])))))) f
    ∙ ap (λ x. program ++ (codes ": object Rule " ++ (x ++ (middle ++ (at ++ (end ++ [])))))) n
    ∙ ap (λ x. program ++ (codes ": object Rule " ++ (decimal r ++ (x ++ (at ++ (end ++ [])))))) m
    ∙ ap (λ x. program ++ (codes ": object Rule " ++ (decimal r ++ (codes " " ++ (x ++ (end ++ [])))))) d
    ∙ ap (λ x. program ++ (codes ": object Rule " ++ (decimal r ++ (codes " " ++ (decimal a ++ (x ++ [])))))) e
    ∙ ap (λ x. program ++ (codes ": object Rule " ++ x)) (sym (append_assoc (decimal r) (codes " " ++ decimal a) (codes "\n")))

-- of what stopped a call
pub stop_parts : (program front text end said : List ℕ) → front ≡ codes ": " → text ≡ said → end ≡ codes "\n"
    → program ++ (front ++ (text ++ (end ++ []))) ≡ line_of program said
stop_parts program front text end said f n e =
    ap (λ x. program ++ (x ++ (text ++ (end ++ [])))) f ∙ ap (λ x. program ++ (codes ": " ++ (x ++ (end ++ [])))) n
    ∙ ap (λ x. program ++ (codes ": " ++ (said ++ (x ++ [])))) e
