-- What the value of a CASE is, whose arms come behind.
use Rattle.std.specs.Prelude.{◌≡◌, ℕ, Option, Result, Ok, Err}
use Rattle.alma_ir.specs.Tree as ir
use Rattle.alma_rules.specs.declared.error.Stop.{Stop}
use Rattle.alma_rules.specs.Judgement.{Judgement, of_value}
use Rattle.alma_rules.specs.Parts as parts
use Rattle.alma_rules.specs.Answers.{Stops}
use Rattle.alma_check_rules.specs.Views.{typing_in}
use Rattle.alma_check_build_expr.specs.Lists.{cases_in}
use Rattle.alma_check_join_case.specs.declared.case.CaseWithArms.{CaseWithArms}

-- the value of a CASE, and the arms, which are judged
abbrev pub JudgesArms : Option parts.Typing → Judgement ir.CaseArms → ℕ → Result CaseWithArms Stop → Type 0
JudgesArms typed j m (Ok c) = (typing_in c.typed ≡ typed) × (j ≡ of_value m (cases_in c.arms))
JudgesArms typed j m (Err e) = Stops j.faults e
