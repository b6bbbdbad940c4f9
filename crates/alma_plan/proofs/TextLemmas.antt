-- The parts of the texts of ends.
use Rattle.std.proofs.Common.{◌≡◌, ◌∙◌, ℕ, zero, suc, List, [], ◌++◌, ap, sym, refl, append_assoc, append-nil}
use Rattle.std.specs.Prelude.{codes, decimal}
use Rattle.alma_base.specs.declared.place.Place.{Place}
use Rattle.alma_code.specs.Lines.{known_line}
use Rattle.alma_plan.specs.Plan.{line_of}
use Rattle.alma_source.specs.Texts.{refusal_line}
use Rattle.alma_plan.specs.Programs.{named_words}
use Rattle.alma_run_laws.specs.Shown.{line_text}

-- of a fault whose line is not known
pub unknown_parts : (program front name end : List ℕ) (line : ℕ) → line ≡ 0 → front ≡ codes ": fault " → end ≡ codes "\n"
    → program ++ (front ++ (name ++ (end ++ []))) ≡ line_of program (named_words name line)
unknown_parts program front name end line z f e =
    ap (λ x. program ++ (x ++ (name ++ (end ++ [])))) f ∙ ap (λ x. program ++ (codes ": fault " ++ (name ++ (x ++ [])))) e
    ∙ ap (λ x. program ++ (codes ": fault " ++ (x ++ codes "\n"))) (sym (append-nil name))
    ∙ ap (λ k. line_of program (codes "fault " ++ (name ++ line_text (known_line k)))) (sym z)

-- and of one whose line is
pub known_parts : (program front name middle number end : List ℕ) (line : ℕ) → (line ≡ 0 → ⊥) → front ≡ codes ": fault "
    → middle ≡ codes " line "
    → number ≡ decimal line → end ≡ codes "\n"
    → program ++ (front ++ (name ++ (middle ++ (number ++ (end ++ []))))) ≡ line_of program (named_words name line)
known_parts program front name middle number end zero some f m d e = absurd (some refl)
known_parts program front name middle number end (suc k) some f m d e =
    ap (λ x. program ++ (x ++ (name ++ (middle ++ (number ++ (end ++ [])))))) f
    ∙ ap (λ x. program ++ (codes ": fault " ++ (name ++ (x ++ (number ++ (end ++ [])))))) m
    ∙ ap (λ x. program ++ (codes ": fault " ++ (name ++ (codes " line " ++ (x ++ (end ++ [])))))) d
    ∙ ap (λ x. program ++ (codes ": fault " ++ (name ++ (codes " line " ++ (decimal (suc k) ++ (x ++ [])))))) e
    ∙ ap (λ x. program ++ (codes ": fault " ++ (name ++ x))) (sym (append_assoc (codes " line ") (decimal (suc k)) (codes "\n")))
    ∙ ap (λ x. program ++ (codes ": fault " ++ x)) (sym (append_assoc name (codes " line " ++ decimal (suc k)) (codes "\n")))

-- of a refusal
pub refusal_parts : (file colon line column middle name end : List ℕ) (place : Place) → colon ≡ codes ":" → line ≡ decimal place.line
    → column ≡ decimal place.column → middle ≡ codes ": " → end ≡ codes "\n"
    → file ++ (colon ++ (line ++ (colon ++ (column ++ (middle ++ (name ++ (end ++ []))))))) ≡ refusal_line file (decimal place.line)
    (decimal place.column) name
refusal_parts file colon line column middle name end place c l k b e =
    ap (λ x. file ++ (x ++ (line ++ (x ++ (column ++ (middle ++ (name ++ (end ++ [])))))))) c
    ∙ ap (λ x. file ++ (codes ":" ++ (x ++ (codes ":" ++ (column ++ (middle ++ (name ++ (end ++ [])))))))) l
    ∙ ap (λ x. file ++ (codes ":" ++ (decimal place.line ++ (codes ":" ++ (x ++ (middle ++ (name ++ (end ++ [])))))))) k
    ∙ ap (λ x. file ++ (codes ":" ++ (decimal place.line ++ (codes ":" ++ (decimal place.column ++ (x ++ (name ++ (end ++ [])))))))) b
    ∙ ap (λ x. file ++ (codes ":" ++ (decimal place.line ++ (codes ":" ++ (decimal place.column ++ (codes ": " ++ (name ++ (x ++ []))))))))
    e
