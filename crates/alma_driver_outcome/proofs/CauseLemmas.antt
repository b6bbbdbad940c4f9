-- What a call may come to ends as its own: why it answers a fault, and that none is hidden.
use Rattle.std.proofs.Common.{◌≡◌, ◌∙◌, ℕ, List, [], sym, ap, subst, inl, inr, arith}
use Rattle.std.specs.Prelude.{◌⊎◌, ◌≢◌, Bool, Option, None, Some}
use Rattle.alma_io.specs.Files.{Told, Missing, MayHave, MayPass}
use Rattle.alma_ir.specs.Tree.{Program}
use Rattle.alma_code.specs.Plain.{PlainCode}
use Rattle.alma_code.specs.Machine.{Mode, Going, Failing, Ended, Stuck}
use Rattle.alma_code.specs.declared.step.End.TheVariants as code_end
use Rattle.alma_verify.specs.Bytes.{object_code}
use Rattle.alma_lower_implements.specs.Implements.{state_after, line_in}
use Rattle.alma_driver_words.specs.Words.{Request, Check, Compile, Listing, Run, Exec, Trace, Sample, Asks, file_of}
use Rattle.alma_driver_words.proofs.WordLemmas.{one_request}
use Rattle.alma_io.specs.Outside.{Outside}
use Rattle.alma_plan.specs.Plan as plan
use Rattle.alma_plan.specs.Plan.{Reading}
use Rattle.alma_plan.proofs.CauseLemmas.{HasOwnDues, causes_within}
use Rattle.alma_plan.proofs.Owns.{IsOwnStatus, own_status}
use Rattle.alma_driver_outcome.specs.Words.{read_by, limit_of}
use Rattle.alma_driver_outcome.specs.Showing.{Showing, Prints, Traces, counts_shown}
use Rattle.alma_driver_outcome.specs.declared.end.Counts.{Counts}
use Rattle.alma_driver_outcome.specs.declared.end.End.{End}
use Rattle.alma_plan.specs.declared.stop.Stop.TheVariants as stop
use Rattle.alma_driver_outcome.specs.Ends.{mode_end, counts_in, status_of, program, end_of_stop}
use Rattle.alma_driver_outcome.specs.Outcome as outcome
use Rattle.alma_driver_outcome.specs.Outcome.{Due, InputOutcome, taken, past_input, ProgramOutcome, ran, too_much_code}
use Rattle.alma_driver_outcome.specs.Outcome.{CompileOutcome, made, past_size, IsSourceEnd, refused, SourceOutcome, stopped, compiled}
use Rattle.alma_driver_outcome.specs.Outcome.{CheckOutcome, ListOutcome, listed, no_object, CodeOutcome, executed, unsound, ExecOutcome}
use Rattle.alma_driver_outcome.specs.Outcome.{opened, unopened, SampleOutcome, summed, FileOutcome, RequestOutcome, absent, past_limit}
use Rattle.alma_driver_outcome.specs.Outcome.{fetched, Outcome, bad_word, asks, Lacks}
use Rattle.alma_driver_outcome.specs.Parts.{MayCome}
use Rattle.alma_driver_outcome.specs.Scope.{Answers, Causes, IsOutcome, scope_of}

-- ---- what is due

-- an end that is no fault of the outside, and no want of memory
abbrev IsOwn : Due → Type 0
IsOwn due = IsOwnStatus (status_of due.end)

-- what is due as this is
own_as : (due known : Due) → due ≡ known → IsOwn known → IsOwn due
own_as due known e own = subst IsOwn (sym e) own

-- a run
own_run : (m : Mode) (line : ℕ) (counts : Option Counts) → IsOwnStatus (status_of (mode_end m line counts))
own_run (Ended code_end.Succeeded) line counts = own_status 0 (inl (omega arith))
own_run (Ended code_end.Failed) line counts = own_status 1 (inl (omega arith))
own_run (Ended (code_end.Fault fault)) line counts = own_status 4 (inl (omega arith))
own_run Going line counts = own_status 5 (inl (omega arith))
own_run Failing line counts = own_status 5 (inl (omega arith))
own_run Stuck line counts = own_status 5 (inl (omega arith))

own_code : (code : PlainCode) (input : List ℕ) (steps : ℕ) (showing : Showing) → IsOwn (outcome.code_due code input steps showing)
own_code code input steps showing =
    let s = state_after code input steps in own_run s.mode (line_in code s) (counts_in (counts_shown showing) s)

own_input : (left : Option (List ℕ)) (code : PlainCode) (steps : ℕ) (showing : Showing) (due : Due)
    → InputOutcome left code steps showing due → IsOwn due
own_input left code steps showing due (outcome.unread quiet e) = own_as due _ e (own_code code [] steps showing)
own_input left code steps showing due (taken input some is short e) = own_as due _ e (own_code code input steps showing)
own_input left code steps showing due (past_input some more e) = own_as due _ e (own_status 10 (inr (omega arith)))

own_program : (left : Option (List ℕ)) (p : Program) (steps : ℕ) (showing : Showing) (due : Due) → ProgramOutcome left p steps showing due
    → IsOwn due
own_program left p steps showing due (ran code size is_code o) = own_input left code steps showing due o
own_program left p steps showing due (too_much_code size e) = own_as due _ e (own_status 11 (inr (omega arith)))

own_compile : (p : Program) (object : List ℕ) (due : Due) → CompileOutcome p object due → IsOwn due
own_compile p object due (made code bytes size is_code is fits e) = own_as due _ e (own_status 0 (inl (omega arith)))
own_compile p object due (past_size size e) = own_as due _ e (own_status 11 (inr (omega arith)))

own_end : (source : List ℕ) (end : End) → IsSourceEnd source end → IsOwnStatus (status_of end)
own_end source end (refused fault offset h e) =
    subst (λ (x : End). IsOwnStatus (status_of x)) (sym e) (own_status 3 (inl (omega arith)))

own_source : (source : List ℕ) (P : Program → Due → Type 0) → ((p : Program) (due : Due) → P p due → IsOwn due)
    → (due : Due) → SourceOutcome source P due → IsOwn due
own_source source P own due (stopped end h e) = own_as due _ e (own_end source end h)
own_source source P own due (compiled p is o) = own p due o

own_list : (bytes : List ℕ) (due : Due) → ListOutcome bytes due → IsOwn due
own_list bytes due (listed clean is e) = own_as due _ e (own_status 0 (inl (omega arith)))
own_list bytes due (no_object fault is e) = own_as due _ e (own_status 9 (inr (omega arith)))

own_object : (left : Option (List ℕ)) (code : PlainCode) (steps : ℕ) (stats : Bool) (due : Due) → CodeOutcome left code steps stats due
    → IsOwn due
own_object left code steps stats due (executed c o) = own_input left code steps (Prints stats) due o
own_object left code steps stats due (unsound fault c e) = own_as due _ e (own_status 9 (inr (omega arith)))

own_exec : (left : Option (List ℕ)) (bytes : List ℕ) (steps : ℕ) (stats : Bool) (due : Due) → ExecOutcome left bytes steps stats due
    → IsOwn due
own_exec left bytes steps stats due (opened c o) = own_object left (object_code bytes) steps stats due o
own_exec left bytes steps stats due (unopened fault c e) = own_as due _ e (own_status 9 (inr (omega arith)))

own_sample : (lines : ℕ) (due : Due) → SampleOutcome lines due → IsOwn due
own_sample lines due (summed printed status o e) = own_as due _ e (own_status 0 (inl (omega arith)))

own_file : (left : Option (List ℕ)) (r : Request) (bytes : List ℕ) (due : Due) → FileOutcome left r bytes due → IsOwn due
own_file left (Check name) bytes due o =
    own_source bytes CheckOutcome (λ p due e. own_as due _ e (own_status 0 (inl (omega arith)))) due o
own_file left (Compile name object) bytes due o = own_source bytes (λ p. CompileOutcome p object) (λ p. own_compile p object) due o
own_file left (Listing object) bytes due o = own_list bytes due o
own_file left (Run name steps stats) bytes due o =
    own_source bytes (λ p. ProgramOutcome left p steps (Prints stats)) (λ p. own_program left p steps (Prints stats)) due o
own_file left (Exec object steps stats) bytes due o = own_exec left bytes steps stats due o
own_file left (Trace name steps watch) bytes due o =
    own_source bytes (λ p. ProgramOutcome left p steps (Traces watch)) (λ p. own_program left p steps (Traces watch)) due o
own_file left (Sample lines) bytes due o = own_sample lines due o

-- a read fault is due only where the file is missing, and without a print or a store
abbrev IsAbsence : List (List ℕ) → (List ℕ → Told) → Due → Type 0
IsAbsence words told due = Lacks words told × (due ≡ outcome.silent (end_of_stop stop.Read))

request_dues : (told : List ℕ → Told) (left : Option (List ℕ)) (words : List (List ℕ)) (r : Request) (due : Due) → Asks words r
    → RequestOutcome told left r due → IsAbsence words told due ⊎ IsOwn due
request_dues told left words r due h (absent name is none e) = inl ((r, name, h, is, none), e)
request_dues told left words r due h (past_limit name is past e) = inr (own_as due _ e (own_status 10 (inr (omega arith))))
request_dues told left words r due h (fetched name bytes is has short o) = inr (own_file left r bytes due o)
request_dues told left words r due h (outcome.unfetched is o) = inr (own_file left r [] due o)

outcome_dues : (told : List ℕ → Told) (left : Option (List ℕ)) (words : List (List ℕ)) (due : Due) → Outcome words told left due
    → IsAbsence words told due ⊎ IsOwn due
outcome_dues told left words due (bad_word k h e) = inr (own_as due _ e (own_status 2 (inl (omega arith))))
outcome_dues told left words due (asks r h o) = request_dues told left words r due h o

-- where the file is missing a read fault is due
request_absent : (told : List ℕ → Told) (left : Option (List ℕ)) (r : Request) (name : List ℕ) (due : Due) → read_by r ≡ Some name
    → told name ≡ Missing
    → RequestOutcome told left r due → due.end ≡ end_of_stop stop.Read
request_absent told left r name due is none (absent other same gone e) = ap (λ (d : Due). d.end) e
request_absent told left r name due is none (past_limit other same past e) =
    let one : name ≡ other = cc (is, same) in
    absurd (subst (λ (t : Told). MayPass t (limit_of r)) (sym (ap told one) ∙ none) past)
request_absent told left r name due is none (fetched other bytes same has short o) =
    let one : name ≡ other = cc (is, same) in
    absurd (subst (λ (t : Told). MayHave t bytes) (sym (ap told one) ∙ none) has)
request_absent told left r name due is none (outcome.unfetched same o) = cc (is, same)

pub outcome_absent : (told : List ℕ → Told) (left : Option (List ℕ)) (words : List (List ℕ)) (due : Due) → Lacks words told
    → Outcome words told left due
    → due.end ≡ end_of_stop stop.Read
outcome_absent told left words due l (bad_word k bad e) = absurd (bad.none (l.0, l.2))
outcome_absent told left words due l (asks r k o) =
    let is : read_by r ≡ Some l.1 = subst (λ (q : Request). read_by q ≡ Some l.1) (one_request words l.0 r l.2 k) l.3 in
    request_absent told left r l.1 due is l.4 o

-- ---- what may come

module _ (words : List (List ℕ)) (before : Outside) where
  -- the status of what may come
  status_is : (r : Reading) (shown : plan.Due) (m : MayCome (file_of words) (IsOutcome words before) r shown)
      → shown.end.status ≡ status_of m.0.end
  status_is r shown m = ap (λ (d : plan.Due). d.end.status) m.3

  by_reads : (r : Reading) (shown : plan.Due) (m : MayCome (file_of words) (IsOutcome words before) r shown) → shown.end.status ≡ 6
      → IsAbsence words before.files.told m.0 ⊎ IsOwn m.0
      → Lacks words before.files.told × (shown.out ≡ []) × (shown.stored ≡ None)
  by_reads r shown m e (inl none) = (
    none.0,
    ap (λ (d : plan.Due). d.out) m.3 ∙ ap (λ (d : Due). d.out) none.1,
    ap (λ (d : plan.Due). d.stored) m.3 ∙ ap (λ (d : Due). d.stored) none.1,
  )
  by_reads r shown m e (inr own) = absurd (own.0 (sym (status_is r shown m) ∙ e))

  by_own : (r : Reading) (shown : plan.Due) (m : MayCome (file_of words) (IsOutcome words before) r shown)
      → IsAbsence words before.files.told m.0 ⊎ IsOwn m.0
      → (shown.end.status ≢ 7) × (shown.end.status ≢ 8)
  by_own r shown m (inl none) =
      let six : shown.end.status ≡ 6 = status_is r shown m ∙ ap (λ (d : Due). status_of d.end) none.1 in
      (λ e. absurd (omega (arith, six, e)), λ e. absurd (omega (arith, six, e)))
  by_own r shown m (inr own) = (λ e. own.1 (sym (status_is r shown m) ∙ e), λ e. own.2 (sym (status_is r shown m) ∙ e))

  -- it ends as the call's own
  dues_own : HasOwnDues (scope_of words before)
  dues_own = record {
    reads = λ r shown m e. by_reads r shown m e (outcome_dues before.files.told before.input.left words m.0 m.1);
    own = λ r shown m. by_own r shown m (outcome_dues before.files.told before.input.left words m.0 m.1);
    absence = λ l r shown m. status_is r shown m ∙ ap status_of (outcome_absent before.files.told before.input.left words m.0 l m.1);
  }

  -- what a call's status says of it
  pub causes_of : (after : Outside) (status : ℕ) → Answers words before after status → Causes words before after status
  causes_of after status = causes_within program (scope_of words before) dues_own before after status
