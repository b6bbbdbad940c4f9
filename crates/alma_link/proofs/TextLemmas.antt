-- The parts of the texts of faults of modules.
use Rattle.std.proofs.Common.{◌≡◌, ◌∙◌, ℕ, List, [], ◌++◌, ap, sym, append_assoc}
use Rattle.std.specs.Prelude.{codes, decimal}
use Rattle.alma_plan.specs.Plan.{line_of}
use Rattle.alma_link.specs.Link.{program}

-- of an import
pub import_parts : (front fault number space name end text : List ℕ) (unit : ℕ) → front ≡ codes ": " → number ≡ decimal unit
    → space ≡ codes " " → name ≡ text → end ≡ codes "\n"
    → program ++ (front ++ (fault ++ (number ++ (space ++ (name ++ (end ++ []))))))
    ≡ line_of program (fault ++ (decimal unit ++ (codes " " ++ text)))
import_parts front fault number space name end text unit f n b t e =
    ap (λ x. program ++ (x ++ (fault ++ (number ++ (space ++ (name ++ (end ++ []))))))) f
    ∙ ap (λ x. program ++ (codes ": " ++ (fault ++ (x ++ (space ++ (name ++ (end ++ []))))))) n
    ∙ ap (λ x. program ++ (codes ": " ++ (fault ++ (decimal unit ++ (x ++ (name ++ (end ++ []))))))) b
    ∙ ap (λ x. program ++ (codes ": " ++ (fault ++ (decimal unit ++ (codes " " ++ (x ++ (end ++ []))))))) t
    ∙ ap (λ x. program ++ (codes ": " ++ (fault ++ (decimal unit ++ (codes " " ++ (text ++ (x ++ []))))))) e
    ∙ ap (λ x. program ++ (codes ": " ++ (fault ++ x))) (sym (append_assoc (decimal unit) (codes " " ++ text) (codes "\n")))
    ∙ ap (λ x. program ++ (codes ": " ++ x)) (sym (append_assoc fault (decimal unit ++ (codes " " ++ text)) (codes "\n")))
