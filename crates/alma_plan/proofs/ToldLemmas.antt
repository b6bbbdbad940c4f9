-- What plans come to where their files and the input are told.
use Rattle.std.proofs.Common.{◌≡◌, ◌∙◌, ◌≤◌, ◌<◌, ℕ, List, [], length, refl, ap, sym, subst, inl, inr, arith}
use Rattle.std.proofs.lemmas.Bool.{cases_lt, lt-ltb, le-ltb}
use Rattle.std.specs.Prelude.{◌⊎◌, Bool, true, false, ltb, Option, None, Some}
use Rattle.alma_base.specs.Limits.{input_limit, size_limit, source_limit}
use Rattle.alma_base.specs.declared.place.Place.{Place}
use Rattle.alma_code.specs.Machine.{State, start}
use Rattle.alma_code.specs.Plain.{PlainCode}
use Rattle.alma_code.specs.Reads.{code_reads}
use Rattle.alma_io.specs.Files.{Told, Missing, Has, MayHave, MayPass}
use Rattle.alma_io.specs.Whole.{MayHaveMore}
use Rattle.alma_ir.specs.Tree.{Program}
use Rattle.alma_lower_implements.specs.Implements.{state_after, printed_by, line_in}
use Rattle.alma_lower_sound.specs.Reads.{program_reads}
use Rattle.alma_plan.specs.Plan.{Due, Ending, Plan, Sense, Reading, Asks, Comes, Fetches, Judges, Reads, Ends, silent, too_much_code}
use Rattle.alma_io.specs.Outside.{MayBeLeft}
use Rattle.alma_plan.specs.Programs.{Last, Runs, Stores, Means, sense, mode_end, refuse_source, unless_large, run_on}
use Rattle.alma_plan.specs.Programs.{run_plan}
use Rattle.alma_plan.specs.Programs.{accept_source, read_source, store_plan, within_size}
use Rattle.alma_run_laws.proofs.Unread.{after_alike, prints_alike}
use Rattle.alma_run_laws.specs.Shown.{size_of}
use Rattle.alma_source.specs.Refusal.{IsProgramOf, IsRefused, place_of}
use Rattle.alma_source.specs.Verdict.{Verdict, Accepted, Rejected, IsVerdict}
use Rattle.alma_source.specs.declared.fault.SourceFault.{SourceFault}

-- ---- any plan

module _ {V L : Type 0} (sense : Sense V L) (program : List ℕ) (told : List ℕ → Told) where
  -- a plan that fetches a file that is told asks for no missing file but behind its bytes
  pub fetch_asks : (file bytes name : List ℕ) (limit : ℕ) (next : List ℕ → Plan V L) → told file ≡ Has bytes → told name ≡ Missing
      → Asks sense told (Fetches file limit next) name → (other : List ℕ) × Asks sense told (next other) name
  fetch_asks file bytes name limit next has missing (inl same) = cc (sym missing ∙ ap told (sym same) ∙ has)
  fetch_asks file bytes name limit next has missing (inr h) = (h.0, h.3)

  module _ (left : Option (List ℕ)) (reading : Reading) (due : Due) where
    -- it goes on with these bytes, where they are within the limit
    pub fetch_comes : (file bytes : List ℕ) (limit : ℕ) (next : List ℕ → Plan V L) → told file ≡ Has bytes → length bytes ≤ limit
        → Comes sense program told left (Fetches file limit next) reading due → Comes sense program told left (next bytes) reading due
    fetch_comes file bytes limit next has short (inl h) = cc (sym has ∙ h.0)
    fetch_comes file bytes limit next has short (inr (inl h)) =
        let more : limit < length bytes = subst (λ (t : Told). MayPass t limit) has h.0 in
        absurd (omega (arith, short, more))
    fetch_comes file bytes limit next has short (inr (inr h)) =
        let same : bytes ≡ h.0 = subst (λ (t : Told). MayHave t h.0) has h.1 in
        subst (λ (got : List ℕ). Comes sense program told left (next got) reading due) (sym same) h.3

    -- a plan that reads the input comes to what its last value means on an input that is left, within its length
    pub read_comes : (input : List ℕ) (last : List ℕ → L) → left ≡ Some input → length input ≤ input_limit
        → Comes sense program told left (Reads last) reading due → sense.means (last input) due
    read_comes input last has short (inl h) =
        let more : input_limit < length input = subst (λ (l : Option (List ℕ)). MayHaveMore l input_limit) has h.0 in
        absurd (omega (arith, short, more))
    read_comes input last has short (inr h) =
        let same : input ≡ h.0 = subst (λ (l : Option (List ℕ)). MayBeLeft l h.0) has h.1 in
        subst (λ (bytes : List ℕ). sense.means (last bytes) due) (sym same) h.4

-- ---- plans of programs

module _ (program : List ℕ) (failed : Ending) where
  -- what is due from a state and prints
  abbrev due_at : PlainCode → State → (out : List ℕ) → Due
  due_at code s out = record { end = mode_end program failed s.mode (line_in code s); out = out; stored = None }

  -- a program that reads nothing comes to the same on each input
  pub run_alike : (p : Program) (input : List ℕ) (steps : ℕ) (due : Due) → program_reads p ≡ false
      → Means program failed (Runs p [] steps) due → Means program failed (Runs p input steps) due
  run_alike p input steps due quiet m =
      let none : code_reads m.0 ≡ false = m.1.reads ∙ quiet in
      let prints = prints_alike m.0 [] input steps (start m.0) none in (
        m.0,
        m.1,
        m.2 ∙ ap (λ (s : State). due_at m.0 s (printed_by m.0 [] steps)) (after_alike m.0 [] input steps (start m.0) none)
            ∙ ap (λ (out : List ℕ). due_at m.0 (state_after m.0 input steps) out) prints,
      )

  module _ (told : List ℕ → Told) where
    -- the plan may ask for this file
    abbrev AsksOf : Plan Verdict Last → (name : List ℕ) → Type 0
    AsksOf plan name = Asks (sense program failed) told plan name

    run_on_asks : (reads : Bool) (p : Program) (steps : ℕ) (name : List ℕ) → AsksOf (run_on reads p steps) name → ⊥
    run_on_asks true p steps name asks = asks
    run_on_asks false p steps name asks = asks

    -- nor is one asked for where a program is too large
    unless_asks : (large : Bool) (p : Program) (next : Plan Verdict Last) (name : List ℕ) → (AsksOf next name → ⊥)
        → AsksOf (unless_large large program p next) name → ⊥
    unless_asks true p next name none asks = asks
    unless_asks false p next name none asks = none asks

    -- a plan to run asks for no file
    pub run_asks : (p : Program) (steps : ℕ) (name : List ℕ) → AsksOf (run_plan program p steps) name → ⊥
    run_asks p steps name asks =
        unless_asks (ltb size_limit (size_of p)) p (run_on (program_reads p) p steps) name (run_on_asks (program_reads p) p steps name) asks

    -- and none to store an object
    pub store_asks : (p : Program) (object name : List ℕ) → AsksOf (store_plan program p object) name → ⊥
    store_asks p object name asks = unless_asks (ltb size_limit (size_of p)) p (Ends (Stores p object)) name (λ none. none) asks

    judged_asks : (file name : List ℕ) (next : Program → Plan Verdict Last) (verdict : Verdict)
        → AsksOf (accept_source file next verdict) name → (p : Program) × AsksOf (next p) name
    judged_asks file name next (Accepted p) asks = (p, asks)
    judged_asks file name next (Rejected fault place) asks = absurd asks

    -- a plan to read a source that is told asks for that file, or behind its program for another
    pub source_asks : (file source name : List ℕ) (next : Program → Plan Verdict Last) → told file ≡ Has source
        → AsksOf (read_source file next) name
        → (told name ≡ Has source) ⊎ ((p : Program) × AsksOf (next p) name)
    source_asks file source name next has (inl same) = inl (ap told (sym same) ∙ has)
    source_asks file source name next has (inr h) = inr (judged_asks file name next h.3.0 h.3.2)

  module _ (told : List ℕ → Told) (left : Option (List ℕ)) (reading : Reading) (due : Due) where
    -- so may a plan come to that
    abbrev ComesOf : Plan Verdict Last → Type 0
    ComesOf plan = Comes (sense program failed) program told left plan reading due

    run_on_comes : (reads : Bool) (p : Program) (input : List ℕ) (steps : ℕ) → program_reads p ≡ reads
        → (program_reads p ≡ true → left ≡ Some input)
        → length input ≤ input_limit → ComesOf (run_on reads p steps) → Means program failed (Runs p input steps) due
    run_on_comes true p input steps is has short c =
        read_comes (sense program failed) program told left reading due input (λ bytes. Runs p bytes steps) (has is) short c
    run_on_comes false p input steps is has short h = run_alike p input steps due is h.1

    -- a program is refused, where it is too large, or goes on
    abbrev pub IsLargeOr : Program → (goes_on : Type 0) → Type 0
    IsLargeOr p goes_on =
        ((size_limit < size_of p) × (due ≡ silent (too_much_code program (size_of p))))
        ⊎ ((size_of p ≤ size_limit) × goes_on)

    sized_comes : (p : Program) (next : Plan Verdict Last) → ComesOf (within_size program p next) → IsLargeOr p (ComesOf next)
    sized_comes p next c = by (cases_lt size_limit (size_of p))
      where
        sized : (large : Bool) → ltb size_limit (size_of p) ≡ large → ComesOf (unless_large large program p next)
        sized large e = subst (λ (b : Bool). ComesOf (unless_large b program p next)) e c

        by : (size_limit < size_of p) ⊎ (size_of p ≤ size_limit) → IsLargeOr p (ComesOf next)
        by (inl past) = inl (past, (sized true (lt-ltb size_limit (size_of p) past)).1)
        by (inr small) = inr (small, sized false (le-ltb size_limit (size_of p) small))

    -- what a run of a program comes to: its refusal, where it is too large, or what its run on the input means
    abbrev pub RunComes : (p : Program) (input : List ℕ) (steps : ℕ) → Type 0
    RunComes p input steps = IsLargeOr p (Means program failed (Runs p input steps) due)

    -- a plan to run comes to that where the input is told that the program reads
    pub run_comes : (p : Program) (input : List ℕ) (steps : ℕ) → (program_reads p ≡ true → left ≡ Some input)
        → length input ≤ input_limit → ComesOf (run_plan program p steps) → RunComes p input steps
    run_comes p input steps has short c = by (sized_comes p (run_on (program_reads p) p steps) c)
      where
        by : IsLargeOr p (ComesOf (run_on (program_reads p) p steps)) → RunComes p input steps
        by (inl large) = inl large
        by (inr small) = inr (small.0, run_on_comes (program_reads p) p input steps refl has short small.1)

    -- what storing the object of a program comes to: its refusal, where it is too large, or what the object means
    abbrev pub StoreComes : (p : Program) (object : List ℕ) → Type 0
    StoreComes p object = IsLargeOr p (Means program failed (Stores p object) due)

    pub store_comes : (p : Program) (object : List ℕ) → ComesOf (store_plan program p object) → StoreComes p object
    store_comes p object c = by (sized_comes p (Ends (Stores p object)) c)
      where
        by : IsLargeOr p (ComesOf (Ends (Stores p object))) → StoreComes p object
        by (inl large) = inl large
        by (inr small) = inr (small.0, small.1.1)

    -- what a source comes to
    abbrev pub SourceComes : (file source : List ℕ) (next : Program → Plan Verdict Last) → Type 0
    SourceComes file source next =
        ((fault : SourceFault) × (offset : ℕ) × IsRefused source fault offset
        × (due ≡ silent (refuse_source file fault (place_of source offset))))
        ⊎ ((p : Program) × IsProgramOf source p × ComesOf (next p))

    judged_comes : (file source : List ℕ) (next : Program → Plan Verdict Last) (verdict : Verdict) → IsVerdict source verdict
        → ComesOf (accept_source file next verdict) → SourceComes file source next
    judged_comes file source next (Accepted p) is c = inr (p, is, c)
    judged_comes file source next (Rejected fault place) is c =
        inl (fault, is.0, is.1, c.1 ∙ ap (λ (at : Place). silent (refuse_source file fault at)) is.2)

    -- a plan to read a source that is told comes to its refusal, or goes on behind its program
    pub source_comes : (file source : List ℕ) (next : Program → Plan Verdict Last) → told file ≡ Has source → length source ≤ source_limit
        → ComesOf (read_source file next) → SourceComes file source next
    source_comes file source next has short c =
        let judged = fetch_comes (sense program failed) program told left reading due file source source_limit
        (λ bytes. Judges bytes (accept_source file next)) has short c in
        judged_comes file source next judged.0 judged.1 judged.2
