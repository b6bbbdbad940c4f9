-- Errors that `?` hands on, behind arms.
use Rattle.std.proofs.Common.{◌≡◌, ℕ, Option, Result, Ok, Err}
use Rattle.std.specs.Result.{IsErrAnd}
use Rattle.alma_ir.specs.Tree as ir
use Rattle.alma_rules.specs.declared.error.Stop.{Stop}
use Rattle.alma_rules.specs.Judgement.{Judgement}
use Rattle.alma_rules.specs.Answers.{Stops}
use Rattle.alma_rules.specs.Parts as parts
use Rattle.alma_check_join_case.specs.declared.case.CaseWithArms.{CaseWithArms}
use Rattle.alma_check_join_case.specs.JudgesArms.{JudgesArms}

pub armed_passed : (typed : Option parts.Typing) (j : Judgement ir.CaseArms) (m : ℕ) (r : Result CaseWithArms Stop) (e : Stop)
    → IsErrAnd r (λ x. x ≡ e) → Stops j.faults e → JudgesArms typed j m r
armed_passed typed j m (Ok v) e h f = absurd h
armed_passed typed j m (Err x) e h f = rw h f
