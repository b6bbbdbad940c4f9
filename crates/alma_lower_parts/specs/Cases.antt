-- What the arms of CASE add.
use Rattle.std.specs.Prelude.{ℕ, List, [], ◌∷◌, ◌++◌}
use Rattle.alma_base.specs.declared.number.Range.{Range}
use Rattle.alma_ir.specs.Tree.{Stmts, CaseArms, Else}
use Rattle.alma_ir.specs.Phrases.{cases_phrases, else_phrases}
use Rattle.alma_ir.specs.Lines.{behind, cases_with, else_with}
use Rattle.alma_lower_work.specs.Front.{Around, Front, Adds}
use Rattle.alma_lower_work.specs.Puts.{PutsCaseArm}
use Rattle.alma_lower_templates.specs.Slots.{cases_slots, else_slots}
use Rattle.alma_lower_templates.specs.Templates as T

-- all arms of CASE, and its ELSE part
pub record PutsAllArms (s : Around) (line value bound : ℕ) (a b : Front) (arms : CaseArms) (rest : Else) : Type 0 where
  pub all : Adds a b (λ at lo ls. T.case_code s.program s.tables s.routine line value bound at lo (cases_with arms ls)
      (λ next lo. T.else_code s.program s.tables s.routine line next lo (else_with rest (behind (cases_phrases arms) ls))))
      (λ ls. cases_slots s.program s.routine (cases_with arms ls)
      ++ else_slots s.program s.routine (else_with rest (behind (cases_phrases arms) ls)))
      (λ ls. behind (else_phrases rest) (behind (cases_phrases arms) ls))

-- an arm of CASE with its labels, of which there is one
abbrev pub PutsArmOf : (s : Around) (line value bound : ℕ) (a b : Front) → List Range → Stmts → Type 0
PutsArmOf s line value bound a b [] body = ⊥
PutsArmOf s line value bound a b (label ∷ more) body = PutsCaseArm s line value bound a b label more body
