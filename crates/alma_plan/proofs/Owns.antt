-- The plans of programs come to ends of the program's own.
use Rattle.std.proofs.Common.{◌<◌, ℕ, List, arith, inl, inr, subst, sym}
use Rattle.std.specs.Prelude.{◌⊎◌, ◌≢◌, Bool, true, false, ltb}
use Rattle.alma_base.specs.Limits.{size_limit}
use Rattle.alma_code.specs.declared.step.End.{End}
use Rattle.alma_code.specs.declared.step.End.TheVariants as ended
use Rattle.alma_code.specs.Machine.{Mode, Going, Failing, Ended, Stuck}
use Rattle.alma_ir.specs.Tree.{Program}
use Rattle.alma_lower_implements.specs.Implements.{state_after, line_in}
use Rattle.alma_lower_sound.specs.Reads.{program_reads}
use Rattle.alma_plan.proofs.OwnEnds.{IsOwn, HasOwnEnds}
use Rattle.alma_plan.specs.Plan.{Due, Ending, Plan, Ends, silent, too_much_code}
use Rattle.alma_source.specs.Verdict.{Verdict, Accepted, Rejected}
use Rattle.alma_plan.specs.Programs.{Last, Tells, Runs, Stores, sense, end_of, mode_end, accept_source, read_source, refuse_source, run_on}
use Rattle.alma_plan.specs.Programs.{run_plan, store_plan, unless_large}
use Rattle.alma_run_laws.specs.Shown.{size_of}

-- a status that is no fault of the outside, and no want of memory
abbrev pub IsOwnStatus : ℕ → Type 0
IsOwnStatus status = (status ≢ 6) × (status ≢ 7) × (status ≢ 8)

pub own_status : (status : ℕ) → (status < 6) ⊎ (8 < status) → IsOwnStatus status
own_status status (inl low) = (
  λ q. absurd (omega (arith, low, q)),
  λ q. absurd (omega (arith, low, q)),
  λ q. absurd (omega (arith, low, q)),
)
own_status status (inr high) = (
  λ q. absurd (omega (arith, high, q)),
  λ q. absurd (omega (arith, high, q)),
  λ q. absurd (omega (arith, high, q)),
)

module _ (program : List ℕ) (failed : Ending) where
  pub own_tells : (due : Due) → IsOwnStatus due.end.status → IsOwn (sense program failed) (Tells due)
  own_tells due own = λ other e. subst (λ (d : Due). IsOwnStatus d.end.status) (sym e) own

  -- a source that is refused, or goes on
  own_accepted : (file : List ℕ) (next : Program → Plan Verdict Last) → ((p : Program) → HasOwnEnds (sense program failed) (next p))
      → (verdict : Verdict)
      → HasOwnEnds (sense program failed) (accept_source file next verdict)
  own_accepted file next own (Accepted p) = own p
  own_accepted file next own (Rejected fault place) = own_tells (silent (refuse_source file fault place)) (own_status 3 (inl (omega arith)))

  pub own_read_source : (file : List ℕ) (next : Program → Plan Verdict Last) → ((p : Program) → HasOwnEnds (sense program failed) (next p))
      → HasOwnEnds (sense program failed) (read_source file next)
  own_read_source file next own = λ source verdict. own_accepted file next own verdict

  -- a program that is too large, or goes on
  own_unless : (large : Bool) (p : Program) (next : Plan Verdict Last) → HasOwnEnds (sense program failed) next
      → HasOwnEnds (sense program failed) (unless_large large program p next)
  own_unless true p next own = own_tells (silent (too_much_code program (size_of p))) (own_status 11 (inr (omega arith)))
  own_unless false p next own = own

  -- an object is stored
  own_stores : (p : Program) (object : List ℕ) → IsOwn (sense program failed) (Stores p object)
  own_stores p object = λ due m. subst (λ (d : Due). IsOwnStatus d.end.status) (sym m.5) (own_status 0 (inl (omega arith)))

  pub own_store_plan : (p : Program) (object : List ℕ) → HasOwnEnds (sense program failed) (store_plan program p object)
  own_store_plan p object = own_unless (ltb size_limit (size_of p)) p (Ends (Stores p object)) (own_stores p object)

  -- the end of a run, where that of one which failed is the program's own
  module _ (own_failed : IsOwnStatus failed.status) where
    own_end : (end : End) (line : ℕ) → IsOwnStatus (end_of program failed end line).status
    own_end ended.Succeeded line = own_status 0 (inl (omega arith))
    own_end ended.Failed line = own_failed
    own_end (ended.Fault fault) line = own_status 4 (inl (omega arith))

    own_mode : (mode : Mode) (line : ℕ) → IsOwnStatus (mode_end program failed mode line).status
    own_mode (Ended end) line = own_end end line
    own_mode Going line = own_status 5 (inl (omega arith))
    own_mode Failing line = own_status 5 (inl (omega arith))
    own_mode Stuck line = own_status 5 (inl (omega arith))

    own_runs : (p : Program) (input : List ℕ) (steps : ℕ) → IsOwn (sense program failed) (Runs p input steps)
    own_runs p input steps = λ due m.
        subst (λ (d : Due). IsOwnStatus d.end.status) (sym m.2)
        (own_mode (state_after m.0 input steps).mode (line_in m.0 (state_after m.0 input steps)))

    own_on : (reads : Bool) (p : Program) (steps : ℕ) → HasOwnEnds (sense program failed) (run_on reads p steps)
    own_on true p steps = λ input. own_runs p input steps
    own_on false p steps = own_runs p _ steps

    pub own_run_plan : (p : Program) (steps : ℕ) → HasOwnEnds (sense program failed) (run_plan program p steps)
    own_run_plan p steps = own_unless (ltb size_limit (size_of p)) p (run_on (program_reads p) p steps) (own_on (program_reads p) p steps)
