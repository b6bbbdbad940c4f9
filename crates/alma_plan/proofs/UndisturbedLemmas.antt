-- A call in which nothing fails, and whose files are there, shows what it may come to.
use Rattle.std.proofs.Common.{ℕ, List, inl, inr}
use Rattle.std.specs.Prelude.{◌⊎◌}
use Rattle.alma_plan.specs.Causes.{Causes, CausesWithin, FetchFailed, InputFailed, IsWhole, MayCome}
use Rattle.alma_plan.specs.Course.{Scope, scope_of}
use Rattle.alma_io.specs.Outside.{Outside, IsUndisturbed}
use Rattle.alma_plan.specs.Plan.{Due, MayLack, Plan, Reading, Sense}
use Rattle.alma_plan.specs.Undisturbed.{ShowsDue}

module _ (program : List ℕ) (scope : Scope) (before after : Outside) (status : ℕ) where
  -- no file is missing, and nothing that reads failed
  none_unread : IsUndisturbed before after status → (scope.may_lack → ⊥)
      → FetchFailed scope.asks before after ⊎ (InputFailed scope.may before after ⊎ scope.may_lack) → ⊥
  none_unread u there (inl fetch) = u.no_read_failed (inl (fetch.0, fetch.2))
  none_unread u there (inr (inl input)) = u.no_read_failed (inr input.0)
  none_unread u there (inr (inr lacks)) = there lacks

  -- all that is due came
  pub call_is_whole : CausesWithin program scope before after status → IsUndisturbed before after status → (scope.may_lack → ⊥)
      → IsWhole scope.may before after status
  call_is_whole c u there = c.whole (λ e. none_unread u there (c.read_fault_is e)) (λ e. u.no_write_failed (c.write_fault_is e)) u.memory

  shows_due : CausesWithin program scope before after status → IsUndisturbed before after status → (scope.may_lack → ⊥)
      → (reading : Reading) × (due : Due) × scope.may reading due × ShowsDue before after status due
  shows_due c u there =
      let w = call_is_whole c u there in
      (w.0, w.1, w.2, record { status_is = w.3; out = w.4; err = w.5; files = w.6 })

-- the same of a call with a plan
pub call_shows_due : {V L : Type 0} (sense : Sense V L) (program : List ℕ) (plan : Plan V L) (before after : Outside) (status : ℕ)
    → Causes sense program plan before after status → IsUndisturbed before after status
    → (MayLack sense before.files.told plan → ⊥)
    → (reading : Reading) × (due : Due) × MayCome sense program plan before reading due × ShowsDue before after status due
call_shows_due sense program plan before after status = shows_due program (scope_of sense program plan before) before after status
