-- Errors that `?` hands on, in the head of a loop.
use Rattle.std.proofs.Common.{◌≡◌, ℕ, List, Option, None, Some, Result, Ok, Err, refl}
use Rattle.std.specs.Prelude.{ℤ, option_map}
use Rattle.std.specs.Result.{IsErrAnd}
use Rattle.alma_base.specs.declared.fault.CheckFault.{CheckFault}
use Rattle.alma_rules.specs.declared.error.Stop.{Stop}
use Rattle.alma_rules.specs.Judgement.{Judgement, broken_at}
use Rattle.alma_rules.specs.Scene.{Heading, Found as RuleFound}
use Rattle.alma_rules.specs.Answers.{Stops}
use Rattle.alma_rules.specs.Parts as parts
use Rattle.alma_check_join_stmt.specs.declared.turns.Bounds.{Bounds}
use Rattle.alma_check_join_stmt.specs.declared.turns.Head.{Head}
use Rattle.alma_check_join_stmt.specs.declared.turns.Start.{Start}
use Rattle.alma_check_join_stmt.specs.declared.turns.Turns.{Turns}
use Rattle.alma_check_join_stmt.specs.Bounded.{Starts, HeadOf, JudgesTurns}

pub same_value : {A : Type 0} (o : Option A) → option_map (λ v. v) o ≡ o
same_value None = refl
same_value (Some v) = refl

module _ (hs : List (Option Heading)) (n : ℕ) (rules : RuleFound → List CheckFault) (x : RuleFound) (old new : ℕ) where
  pub start_passed : (r : Result Start Stop) (e : Stop) → IsErrAnd r (λ y. y ≡ e) → Stops (broken_at n (rules x)) e
      → Starts hs n rules x old new r
  start_passed (Ok v) e h f = absurd h
  start_passed (Err y) e h f = rw h f

pub head_passed : (s : Start) (low : Option parts.Typing) (j : Judgement parts.Typing) (m : ℕ) (r : Result Head Stop) (e : Stop)
    → IsErrAnd r (λ x. x ≡ e) → Stops j.faults e → HeadOf s low j m r
head_passed s low j m (Ok v) e h f = absurd h
head_passed s low j m (Err x) e h f = rw h f

pub turned_passed : (b : Bounds) (j : Judgement ℤ) (m : ℕ) (r : Result Turns Stop) (e : Stop) → IsErrAnd r (λ x. x ≡ e) → Stops j.faults e
    → JudgesTurns b j m r
turned_passed b j m (Ok v) e h f = absurd h
turned_passed b j m (Err x) e h f = rw h f
