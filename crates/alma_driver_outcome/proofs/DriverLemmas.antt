-- From what the parts of a call ensure to how the call may go.
use Rattle.std.proofs.Common.{◌+◌, ◌≡◌, ◌≤◌, ◌<◌, ◌^◌, ◌∙◌, ℕ, List, [], length, ap, sym, subst, refl, inl, inr, arith}
use Rattle.std.specs.Prelude.{◌⊎◌, Bool, true, false, Option, Result, Err, None, Some, ltb}
use Rattle.std.specs.Global.{Vec}
use Rattle.std.proofs.lemmas.Bool.{cases_lt, le-ltb, lt-ltb}
use Rattle.alma_base.specs.Limits.{size_limit, input_limit}
use Rattle.std.specs.Io.KnownBytes.{Consumes, IsAtEnd}
use Rattle.alma_io.specs.Whole.{MayHaveMore, LosesAtMost, LosesBytes, HasReadCause}
use Rattle.alma_io.specs.declared.whole.ReadAll.{ReadAll}
use Rattle.alma_io.specs.declared.whole.ReadAll.TheVariants as reading
use Rattle.alma_io.specs.Files.{Told, MayHave, IsFetched}
use Rattle.alma_io.specs.declared.files.Fetch.{Fetch}
use Rattle.alma_io.specs.declared.files.Fetch.TheVariants as fetch
use Rattle.alma_ir.specs.Tree.{Program}
use Rattle.alma_code.specs.ListText.{list_text}
use Rattle.alma_code.specs.Plain.{PlainCode}
use Rattle.alma_code.specs.Reads.{code_reads}
use Rattle.alma_code.specs.Rules.{code_fault}
use Rattle.alma_code.specs.declared.step.End.TheVariants as code_end
use Rattle.alma_code.specs.declared.step.VerifyFault.{VerifyFault}
use Rattle.alma_object_format.specs.declared.fault.ObjectFault.{ObjectFault}
use Rattle.alma_object.specs.Object.{IsObject}
use Rattle.alma_object.specs.Walk.{object_fault}
use Rattle.alma_verify.specs.Bytes.{object_code}
use Rattle.alma_lower.specs.declared.lowering.LowerError.{LowerError}
use Rattle.alma_lower.specs.CodeFor.{IsCodeFor}
use Rattle.alma_lower.specs.declared.lowering.LowerError.TheVariants as lower
use Rattle.alma_run_laws.specs.Shown.{size_of}
use Rattle.alma_run_laws.proofs.Sizes.{not_lowered, refused_large}
use Rattle.alma_driver_words.specs.Words.{Request, Check, Compile, Listing, Run, Exec, Trace, Sample, Reads}
use Rattle.alma_driver_words.specs.Words as words_of
use Rattle.alma_driver_outcome.specs.Words.{read_by, limit_of, IsReadBy}
use Rattle.alma_driver_outcome.specs.Showing.{Showing, Prints}
use Rattle.alma_io.specs.Sides.{SinkSide, SourceSide, FilesSide}
use Rattle.alma_io.specs.Outside.{FilesStay}
use Rattle.alma_base.specs.declared.place.Place.{Place}
use Rattle.alma_scan.specs.Places.{line_at, column_at}
use Rattle.alma_source.specs.Refusal.{IsRefused, IsProgramOf}
use Rattle.alma_source.specs.declared.fault.SourceFault.{SourceFault}
use Rattle.alma_driver_outcome.specs.Ends.{lower_end, words_end, end_of_stop, end_of_program, ending_in, program}
use Rattle.alma_plan.specs.Course as frame
use Rattle.alma_plan.specs.Course.{Course, MayRead, Takes}
use Rattle.alma_plan.specs.Ends.{program_end}
use Rattle.alma_plan.specs.Plan as plan
use Rattle.alma_plan.specs.Plan.{Asks, Comes, Ending, Reading, Kept, Finished, Passed, ending_of}
use Rattle.alma_plan.specs.Programs.{Stores, sense, store_plan, unless_large}
use Rattle.alma_plan.specs.Refusals.{fetch_stop, read_stop}
use Rattle.alma_plan.specs.declared.end.ProgramEnd.{ProgramEnd}
use Rattle.alma_plan.specs.declared.end.ProgramEnd.TheVariants as ended
use Rattle.alma_plan.specs.declared.refusal.Refusal.TheVariants as refusal
use Rattle.alma_plan.specs.declared.stop.Stop.TheVariants as stop
use Rattle.alma_plan.proofs.Courses.{course_map, course_starved, files_same, gains_none, was_left}
use Rattle.alma_driver_outcome.specs.Outcome.{Due, due_of, silent, storing, code_due, long_input, reading_of, InputOutcome, unread}
use Rattle.alma_driver_outcome.specs.Outcome.{taken, past_input, ProgramOutcome, ran, too_much_code, CompileOutcome, made}
use Rattle.alma_driver_outcome.specs.Outcome.{past_size, refused, IsStop, SourceOutcome, stopped, compiled, CheckOutcome}
use Rattle.alma_driver_outcome.specs.Outcome.{ListOutcome, listed, no_object, CodeOutcome, executed, unsound, ExecOutcome, opened, unopened}
use Rattle.alma_driver_outcome.specs.Outcome.{FileOutcome, SampleOutcome, summed, RequestOutcome, absent, past_limit, fetched, unfetched}
use Rattle.alma_driver_outcome.specs.Outcome.{Outcome, bad_word, asks, AskToRead}
use Rattle.alma_driver_words.specs.declared.words.WordsError.{WordsError}
use Rattle.alma_driver_words.specs.declared.words.WordsError.TheVariants as words
use Rattle.alma_driver_outcome.specs.declared.end.End.{End}
use Rattle.alma_driver_outcome.specs.declared.end.End.TheVariants.{Succeeded, BadSource, TooMuchCode, Refused}
use Rattle.alma_driver_outcome.specs.Parts.{Goes, MayCome, NoFile, Runs, Serves, Works, shown_in}
use Rattle.alma_driver_outcome.proofs.CourseLemmas.{goes_map, goes_silent, goes_starved, serves_behind, runs_map, runs_by, runs_still}
use Rattle.alma_driver_outcome.proofs.CourseLemmas.{runs_starved, runs_silent, works_map, works_starved, works_silent}
use Rattle.alma_driver_outcome.proofs.RunLemmas.{IsDue}

-- ---- the input

-- code that does not read was run
pub runs_unread : (code : PlainCode) (steps : ℕ) (showing : Showing) (i : SourceSide) (a b : SinkSide) (end : End) → code_reads code ≡ false
    → Goes (IsDue code [] steps showing) a b end → Runs (InputOutcome i.left code steps showing) i i a b end
runs_unread code steps showing i a b end quiet g =
    runs_map (IsDue code [] steps showing) (InputOutcome i.left code steps showing) (λ due e. unread quiet e) i i a b end
    (runs_still (IsDue code [] steps showing) (λ due e. ap (λ (d : Due). d.reading) e ∙ ap reading_of quiet) i a b end g)

-- code that reads was run on all that was left
pub runs_taken : (code : PlainCode) (steps : ℕ) (showing : Showing) (i j : SourceSide) (bytes : List ℕ) (a b : SinkSide) (end : End)
    → code_reads code ≡ true
    → Consumes i.left j.left bytes → IsAtEnd j.left → length bytes ≤ input_limit → j.faults ≡ i.faults
    → Goes (IsDue code bytes steps showing) a b end → Runs (InputOutcome i.left code steps showing) i j a b end
runs_taken code steps showing i j bytes a b end q c e short same g =
    let read : Finished ≡ reading_of (code_reads code) = sym (ap reading_of q) in
    let due = code_due code bytes steps showing in
    runs_map (IsDue code bytes steps showing) (InputOutcome i.left code steps showing)
    (λ due d. taken bytes q (was_left i.left j.left bytes c e) short d) i j a b end
    (runs_by (IsDue code bytes steps showing) i j
    (λ due d. subst (λ (r : Reading). Takes r i j) (read ∙ sym (ap (λ (x : Due). x.reading) d)) ((bytes, c, e, short), same))
    (λ file. inr ((shown_in file due, inl (due, refl, read, refl)), ((bytes, c, omega (arith, short)), same))) a b end g)

-- code that reads has an outcome that reads
reading_due : (file : List ℕ) (left : Option (List ℕ)) (code : PlainCode) (steps : ℕ) (showing : Showing) → code_reads code ≡ true
    → MayRead (MayCome file (InputOutcome left code steps showing))
reading_due file None code steps showing q =
    let due = code_due code [] steps showing in
    (shown_in file due, inl (due, taken [] q tt (omega arith) refl, sym (ap reading_of q), refl))
reading_due file (Some bytes) code steps showing q = by (cases_lt input_limit (length bytes))
  where
    by : (input_limit < length bytes) ⊎ (length bytes ≤ input_limit) → MayRead (MayCome file (InputOutcome (Some bytes) code steps showing))
    by (inl past) = (shown_in file long_input, inr (long_input, past_input q past refl, refl, refl))
    by (inr short) =
        let due = code_due code bytes steps showing in
        (shown_in file due, inl (due, taken bytes q refl short refl, sym (ap reading_of q), refl))

-- what reading the input answers where it gives no bytes
abbrev not_read : ReadAll → Result (Vec ℕ) ReadAll
not_read error = Err error

-- an input that was not read
pub runs_lost : (code : PlainCode) (steps : ℕ) (showing : Showing) (i j : SourceSide) (error : ReadAll) (a : SinkSide)
    → code_reads code ≡ true
    → LosesAtMost i.left j.left (input_limit + 1) → HasReadCause i.faults j.faults (Err error)
    → (not_read error ≡ not_read reading.TooLong → MayHaveMore i.left input_limit)
    → (not_read error ≡ not_read reading.TooLong → LosesBytes i.left j.left (input_limit + 1))
    → Runs (InputOutcome i.left code steps showing) i j a a (end_of_stop (read_stop error))
runs_lost code steps showing i j reading.Fault a q loses cause more past = λ f file.
    frame.unread refl refl (files_same f) (reading_due file i.left code steps showing q) loses (cause.0, cause.1) (gains_none a)
runs_lost code steps showing i j reading.TooLong a q loses cause more past = λ f file.
    frame.done Passed (shown_in file long_input) (long_input, past_input q (more refl) refl, refl, refl) refl refl (files_same f)
    (past refl, cause) (gains_none a)
runs_lost code steps showing i j reading.Memory a q loses cause more past = λ f file.
    frame.starved refl refl (files_same f) (inr (reading_due file i.left code steps showing q, (loses, cause))) (gains_none a)

-- ---- sources

-- a place by its parts
abbrev place_at : (line column : ℕ) → Place
place_at line column = record { line = line; column = column }

-- a source that is refused
pub stop_refused : (source : List ℕ) (fault : SourceFault) (offset : ℕ) (place : Place) → IsRefused source fault offset
    → place.line ≡ line_at source offset → place.column ≡ column_at source offset → IsStop source (BadSource fault place)
stop_refused source fault offset place h line column =
    let same = ap (λ n. place_at n place.column) line ∙ ap (place_at (line_at source offset)) column in
    inr (refused fault offset h (ap (BadSource fault) same))

pub runs_stopped : (source : List ℕ) (P : Program → Due → Type 0) (i : SourceSide) (a : SinkSide) (end : End) → IsStop source end
    → Runs (SourceOutcome source P) i i a a end
runs_stopped source P i a end (inl e) = subst (Runs (SourceOutcome source P) i i a a) (sym e) (runs_starved (SourceOutcome source P) i a)
runs_stopped source P i a end (inr h) = runs_silent (SourceOutcome source P) i a end (stopped end h refl)

-- a source whose program was run
pub runs_read : (source : List ℕ) (P : Program → Due → Type 0) (p : Program) (i j : SourceSide) (a b : SinkSide) (end : End)
    → IsProgramOf source p
    → Runs (P p) i j a b end → Runs (SourceOutcome source P) i j a b end
runs_read source P p i j a b end is g = runs_map (P p) (SourceOutcome source P) (λ due o. compiled p is o) i j a b end g

-- a source that is a program was checked
pub goes_checked : (source : List ℕ) (p : Program) (a : SinkSide) → IsProgramOf source p
    → Goes (SourceOutcome source CheckOutcome) a a (Succeeded None)
goes_checked source p a is = goes_silent (SourceOutcome source CheckOutcome) a (Succeeded None) (compiled p is refl)

-- and one that is none
pub goes_stopped : (source : List ℕ) (P : Program → Due → Type 0) (a : SinkSide) (end : End) → IsStop source end
    → Goes (SourceOutcome source P) a a end
goes_stopped source P a end (inl e) = subst (Goes (SourceOutcome source P) a a) (sym e) (goes_starved (SourceOutcome source P) a)
goes_stopped source P a end (inr h) = goes_silent (SourceOutcome source P) a end (stopped end h refl)

-- ---- compiling

-- why a program has no code
pub data IsUnlowered (p : Program) (error : LowerError) : Type 0 where
  large : size_limit < size_of p → lower_end error ≡ TooMuchCode (size_of p) → IsUnlowered p error
  starved : lower_end error ≡ end_of_stop stop.Memory → IsUnlowered p error

pub unlowered : (p : Program) (error : LowerError)
    → (size_limit < size_of p → not_lowered error ≡ not_lowered (lower.TooMuchCode (size_of p)))
    → (size_of p ≤ size_limit → (n : ℕ) → not_lowered error ≡ not_lowered (lower.TooMuchCode n) → ⊥) → IsUnlowered p error
unlowered p (lower.TooMuchCode n) too_much within =
    let past = refused_large p n too_much within in
    large past.0 (ap TooMuchCode past.1)
unlowered p lower.Memory too_much within = starved refl

-- a program that was not compiled
pub runs_refused : (p : Program) (steps : ℕ) (showing : Showing) (error : LowerError) (i : SourceSide) (a : SinkSide) → IsUnlowered p error
    → Runs (ProgramOutcome i.left p steps showing) i i a a (lower_end error)
runs_refused p steps showing error i a (large past e) =
    subst (Runs (ProgramOutcome i.left p steps showing) i i a a) (sym e)
    (runs_silent (ProgramOutcome i.left p steps showing) i a (TooMuchCode (size_of p)) (too_much_code past refl))
runs_refused p steps showing error i a (starved e) =
    subst (Runs (ProgramOutcome i.left p steps showing) i i a a) (sym e) (runs_starved (ProgramOutcome i.left p steps showing) i a)

-- a program that was compiled and run
pub runs_compiled : (p : Program) (code : PlainCode) (steps : ℕ) (showing : Showing) (i j : SourceSide) (a b : SinkSide) (end : End)
    → IsCodeFor p code → size_of p ≤ size_limit
    → Runs (InputOutcome i.left code steps showing) i j a b end → Runs (ProgramOutcome i.left p steps showing) i j a b end
runs_compiled p code steps showing i j a b end is within g =
    runs_map (InputOutcome i.left code steps showing) (ProgramOutcome i.left p steps showing)
    (λ due o. ran code within is o) i j a b end g

-- ---- listing

-- what is due from bytes that are listed as this code
abbrev pub IsListed : PlainCode → Due → Type 0
IsListed code due = due ≡ due_of (Succeeded None) (list_text code)

-- an object that was listed
pub goes_listed : (bytes : List ℕ) (code : PlainCode) (a b : SinkSide) (end : End) → object_fault bytes ≡ None → IsObject code bytes
    → code ≡ object_code bytes → Goes (IsListed code) a b end → Goes (ListOutcome bytes) a b end
goes_listed bytes code a b end clean is same g =
    goes_map (IsListed code) (ListOutcome bytes)
    (λ due e. listed clean (subst (λ c. IsObject c bytes) same is) (e ∙ ap (λ c. due_of (Succeeded None) (list_text c)) same)) a b end g

-- bytes that are no object
pub goes_not_listed : (bytes : List ℕ) (fault : ObjectFault) (a : SinkSide) → object_fault bytes ≡ Some fault
    → Goes (ListOutcome bytes) a a (Refused (refusal.BadObject fault))
goes_not_listed bytes fault a is = goes_silent (ListOutcome bytes) a (Refused (refusal.BadObject fault)) (no_object fault is refl)

-- listing comes to one outcome
pub one_listing : (bytes : List ℕ) (first second : Due) → ListOutcome bytes first → ListOutcome bytes second → first ≡ second
one_listing bytes first second (listed clean is e) (listed clean' is' e') = e ∙ sym e'
one_listing bytes first second (listed clean is e) (no_object fault some e') = cc (clean, some)
one_listing bytes first second (no_object fault some e) (listed clean is e') = cc (some, clean)
one_listing bytes first second (no_object fault some e) (no_object other some' e') =
    let same : fault ≡ other = cc (some, some') in
    e ∙ ap (λ f. silent (Refused (refusal.BadObject f))) same ∙ sym e'

-- ---- running an object

-- verified code that was run
pub runs_executed : (code : PlainCode) (steps : ℕ) (stats : Bool) (i j : SourceSide) (a b : SinkSide) (end : End) → code_fault code ≡ None
    → Runs (InputOutcome i.left code steps (Prints stats)) i j a b end → Runs (CodeOutcome i.left code steps stats) i j a b end
runs_executed code steps stats i j a b end clean g =
    runs_map (InputOutcome i.left code steps (Prints stats)) (CodeOutcome i.left code steps stats) (λ due o. executed clean o) i j a b end g

-- code that is not sound
pub runs_unsound : (code : PlainCode) (steps : ℕ) (stats : Bool) (fault : VerifyFault) (i : SourceSide) (a : SinkSide)
    → code_fault code ≡ Some fault
    → Runs (CodeOutcome i.left code steps stats) i i a a (Refused (refusal.BadCode fault))
runs_unsound code steps stats fault i a is =
    runs_silent (CodeOutcome i.left code steps stats) i a (Refused (refusal.BadCode fault)) (unsound fault is refl)

-- an object whose code was run
pub runs_opened : (bytes : List ℕ) (code : PlainCode) (steps : ℕ) (stats : Bool) (i j : SourceSide) (a b : SinkSide) (end : End)
    → object_fault bytes ≡ None
    → code ≡ object_code bytes → Runs (CodeOutcome i.left code steps stats) i j a b end
    → Runs (ExecOutcome i.left bytes steps stats) i j a b end
runs_opened bytes code steps stats i j a b end clean same g =
    runs_map (CodeOutcome i.left code steps stats) (ExecOutcome i.left bytes steps stats)
    (λ due o. opened clean (subst (λ c. CodeOutcome i.left c steps stats due) same o)) i j a b end g

-- bytes that are none
pub runs_unopened : (bytes : List ℕ) (steps : ℕ) (stats : Bool) (fault : ObjectFault) (i : SourceSide) (a : SinkSide)
    → object_fault bytes ≡ Some fault
    → Runs (ExecOutcome i.left bytes steps stats) i i a a (Refused (refusal.BadObject fault))
runs_unopened bytes steps stats fault i a is =
    runs_silent (ExecOutcome i.left bytes steps stats) i a (Refused (refusal.BadObject fault)) (unopened fault is refl)

-- running code on an input that is told comes to one outcome
one_input : (input : List ℕ) (code : PlainCode) (steps : ℕ) (showing : Showing) (first second : Due)
    → InputOutcome (Some input) code steps showing first
    → InputOutcome (Some input) code steps showing second → first ≡ second
one_input input code steps showing first second (unread q e) (unread q' e') = e ∙ sym e'
one_input input code steps showing first second (unread q e) (taken bytes q' l s e') = cc (q, q')
one_input input code steps showing first second (unread q e) (past_input q' m e') = cc (q, q')
one_input input code steps showing first second (taken bytes q l s e) (unread q' e') = cc (q, q')
one_input input code steps showing first second (taken bytes q l s e) (taken other q' l' s' e') =
    e ∙ ap (λ z. code_due code z steps showing) (sym l ∙ l') ∙ sym e'
one_input input code steps showing first second (taken bytes q l s e) (past_input q' m e') =
    absurd (omega (arith, m, s, ap length l))
one_input input code steps showing first second (past_input q m e) (unread q' e') = cc (q, q')
one_input input code steps showing first second (past_input q m e) (taken bytes q' l s e') =
    absurd (omega (arith, m, s, ap length l))
one_input input code steps showing first second (past_input q m e) (past_input q' m' e') = e ∙ sym e'

one_code_run : (input : List ℕ) (code : PlainCode) (steps : ℕ) (stats : Bool) (first second : Due)
    → CodeOutcome (Some input) code steps stats first
    → CodeOutcome (Some input) code steps stats second → first ≡ second
one_code_run input code steps stats first second (executed c o) (executed c' o') =
    one_input input code steps (Prints stats) first second o o'
one_code_run input code steps stats first second (executed c o) (unsound fault c' e') = cc (c, c')
one_code_run input code steps stats first second (unsound fault c e) (executed c' o') = cc (c, c')
one_code_run input code steps stats first second (unsound fault c e) (unsound other c' e') =
    let same : fault ≡ other = cc (c, c') in
    e ∙ ap (λ f. silent (Refused (refusal.BadCode f))) same ∙ sym e'

-- and so does running an object
pub one_execution : (input bytes : List ℕ) (steps : ℕ) (stats : Bool) (first second : Due)
    → ExecOutcome (Some input) bytes steps stats first
    → ExecOutcome (Some input) bytes steps stats second → first ≡ second
one_execution input bytes steps stats first second (opened c o) (opened c' o') =
    one_code_run input (object_code bytes) steps stats first second o o'
one_execution input bytes steps stats first second (opened c o) (unopened fault c' e') = cc (c, c')
one_execution input bytes steps stats first second (unopened fault c e) (opened c' o') = cc (c, c')
one_execution input bytes steps stats first second (unopened fault c e) (unopened other c' e') =
    let same : fault ≡ other = cc (c, c') in
    e ∙ ap (λ f. silent (Refused (refusal.BadObject f))) same ∙ sym e'

-- ---- the files

-- so a program that fails ends
abbrev pub failure : Ending
failure = ending_of 1 []

-- the end of a program, as it is told
program_told : (file : List ℕ) (end : ProgramEnd) → program_end program failure end ≡ ending_in file (end_of_program end)
program_told file (ended.Ended code_end.Succeeded line) = refl
program_told file (ended.Ended code_end.Failed line) = refl
program_told file (ended.Ended (code_end.Fault fault) line) = refl
program_told file ended.Stored = refl
program_told file ended.StepsOut = refl
program_told file (ended.TooMuchCode size) = refl
program_told file (ended.Stopped stop.Read) = refl
program_told file (ended.Stopped stop.Write) = refl
program_told file (ended.Stopped stop.Memory) = refl
program_told file (ended.Stopped stop.TooLong) = refl

module _ (p : Program) (object : List ℕ) where
  -- what the plan of storing an object asks for, and what may come of it
  stores_none : (told : List ℕ → Told) (name : List ℕ) → Asks (sense program failure) told (store_plan program p object) name → ⊥
  stores_none told name = by (ltb size_limit (size_of p))
    where
      by : (is_large : Bool)
          → Asks (sense program failure) told (unless_large is_large program p (plan.Ends (Stores p object))) name → ⊥
      by true none = none
      by false none = none

  may_store : (told : List ℕ → Told) (left : Option (List ℕ)) (file : List ℕ) (r : Reading) (shown : plan.Due)
      → Comes (sense program failure) program told left (store_plan program p object) r shown
      → MayCome file (CompileOutcome p object) r shown
  may_store told left file r shown = by (cases_lt size_limit (size_of p))
    where
      large : (is_large : Bool) → is_large ≡ true → size_limit < size_of p
          → Comes (sense program failure) program told left (unless_large is_large program p (plan.Ends (Stores p object))) r shown
          → MayCome file (CompileOutcome p object) r shown
      large true e past m = (silent (TooMuchCode (size_of p)), past_size past refl, m.0, m.1)
      large false e past m = cc e

      within : (is_large : Bool) → is_large ≡ false → size_of p ≤ size_limit
          → Comes (sense program failure) program told left (unless_large is_large program p (plan.Ends (Stores p object))) r shown
          → MayCome file (CompileOutcome p object) r shown
      within true e small m = cc e
      within false e small m = (storing object m.1.1, made m.1.0 m.1.1 small m.1.2 m.1.3 m.1.4 refl, m.0, m.1.5)

      by : (size_limit < size_of p) ⊎ (size_of p ≤ size_limit)
          → Comes (sense program failure) program told left (store_plan program p object) r shown
          → MayCome file (CompileOutcome p object) r shown
      by (inl past) m = large (ltb size_limit (size_of p)) (lt-ltb size_limit (size_of p) past) past m
      by (inr small) m = within (ltb size_limit (size_of p)) (le-ltb size_limit (size_of p) small) small m

  -- a program whose object was stored, or not
  pub works_program : (f g : FilesSide) (end : ProgramEnd)
      → ((input : SourceSide) (out : SinkSide) → frame.Follows (sense program failure) program (store_plan program p object) f g input input
      out out (program_end program failure end))
      → Works (CompileOutcome p object) f g (end_of_program end)
  works_program f g end follows = λ input out file.
      subst (Course program NoFile (MayCome file (CompileOutcome p object)) f g input input out out) (program_told file end)
      (course_map program (Asks (sense program failure) f.told (store_plan program p object)) NoFile
      (Comes (sense program failure) program f.told input.left (store_plan program p object)) (MayCome file (CompileOutcome p object))
      (stores_none f.told) (may_store f.told input.left file) f f g input input out out (program_end program failure end)
      (files_same f) refl (follows input out))

-- a source whose program was compiled
pub works_read : (source : List ℕ) (P : Program → Due → Type 0) (p : Program) (f g : FilesSide) (end : End) → IsProgramOf source p
    → Works (P p) f g end → Works (SourceOutcome source P) f g end
works_read source P p f g end is w = works_map (P p) (SourceOutcome source P) (λ due o. compiled p is o) f g end w

-- and one that has none
pub works_stopped : (source : List ℕ) (P : Program → Due → Type 0) (f : FilesSide) (end : End) → IsStop source end
    → Works (SourceOutcome source P) f f end
works_stopped source P f end (inl e) = subst (Works (SourceOutcome source P) f f) (sym e) (works_starved (SourceOutcome source P) f)
works_stopped source P f end (inr h) = works_silent (SourceOutcome source P) f end (stopped end h refl)

-- ---- what leaves the input

list_still : (bytes : List ℕ) (due : Due) → ListOutcome bytes due → due.reading ≡ Kept
list_still bytes due (listed clean is e) = ap (λ (d : Due). d.reading) e
list_still bytes due (no_object fault is e) = ap (λ (d : Due). d.reading) e

pub runs_list : (bytes : List ℕ) (i : SourceSide) (a b : SinkSide) (end : End) → Goes (ListOutcome bytes) a b end
    → Runs (ListOutcome bytes) i i a b end
runs_list bytes i a b end g = runs_still (ListOutcome bytes) (list_still bytes) i a b end g

sample_still : (lines : ℕ) (due : Due) → SampleOutcome lines due → due.reading ≡ Kept
sample_still lines due (summed printed status o e) = ap (λ (d : Due). d.reading) e

pub runs_sample : (lines : ℕ) (i : SourceSide) (a b : SinkSide) (end : End) → Goes (SampleOutcome lines) a b end
    → Runs (SampleOutcome lines) i i a b end
runs_sample lines i a b end g = runs_still (SampleOutcome lines) (sample_still lines) i a b end g

check_still : (source : List ℕ) (due : Due) → SourceOutcome source CheckOutcome due → due.reading ≡ Kept
check_still source due (stopped end h e) = ap (λ (d : Due). d.reading) e
check_still source due (compiled p is o) = ap (λ (d : Due). d.reading) o

pub runs_check : (source : List ℕ) (i : SourceSide) (a b : SinkSide) (end : End) → Goes (SourceOutcome source CheckOutcome) a b end
    → Runs (SourceOutcome source CheckOutcome) i i a b end
runs_check source i a b end g = runs_still (SourceOutcome source CheckOutcome) (check_still source) i a b end g

-- ---- the call

-- a fetch may have this limit
pub limit_small : (r : Request) → limit_of r < 2 ^ 62
limit_small (Check name) = omega arith
limit_small (Compile name object) = omega arith
limit_small (Listing object) = omega arith
limit_small (Run name steps stats) = omega arith
limit_small (Exec object steps stats) = omega arith
limit_small (Trace name steps watch) = omega arith
limit_small (Sample lines) = omega arith

-- a fetch with this limit is that of the request
pub fetch_of : (told : Told) (name : List ℕ) (limit : ℕ) (r : Request) (before now : List ℕ → ℕ) (fault : Fetch) → limit ≡ limit_of r
    → IsFetched told name limit before now (Err fault) → IsFetched told name (limit_of r) before now (Err fault)
fetch_of told name limit r before now fault l h = subst (λ (k : ℕ). IsFetched told name k before now (Err fault)) l h

-- a file that was not fetched
pub serves_unfetched : (f g : FilesSide) (r : Request) (name : List ℕ) (fault : Fetch) (i : SourceSide) (a : SinkSide)
    → read_by r ≡ Some name → FilesStay f g
    → IsFetched (f.told name) name (limit_of r) f.fetch_faults g.fetch_faults (Err fault)
    → Serves (IsReadBy r) (RequestOutcome f.told i.left r) f g i i a a (end_of_stop (fetch_stop fault))
serves_unfetched f g r name fetch.Absent i a is s h = λ file.
    frame.done Kept (shown_in file (silent (end_of_stop stop.Read))) (
      silent (end_of_stop stop.Read),
      absent name is h.0 refl,
      refl,
      refl,
    ) refl h.1 s refl
    (gains_none a)
serves_unfetched f g r name fetch.Failed i a is s h = λ file. frame.unfetched name is refl (h.0, h.1) s refl (gains_none a)
serves_unfetched f g r name fetch.TooLong i a is s h = λ file.
    frame.done Kept (shown_in file (silent (end_of_stop stop.TooLong))) (
      silent (end_of_stop stop.TooLong),
      past_limit name is h.0 refl,
      refl,
      refl,
    ) refl h.1 s refl
    (gains_none a)
serves_unfetched f g r name fetch.Memory i a is s h = λ file.
    frame.starved refl h s (inl refl) (gains_none a)

-- a file that was fetched
pub serves_fetched : (f g h : FilesSide) (r : Request) (name bytes : List ℕ) (i j : SourceSide) (a b : SinkSide) (end : End)
    → read_by r ≡ Some name → FilesStay f g
    → MayHave (f.told name) bytes → length bytes ≤ limit_of r → g.fetch_faults ≡ f.fetch_faults
    → Serves NoFile (FileOutcome i.left r bytes) g h i j a b end → Serves (IsReadBy r) (RequestOutcome f.told i.left r) f h i j a b end
serves_fetched f g h r name bytes i j a b end is stay has short quiet s =
    serves_behind NoFile (IsReadBy r) (FileOutcome i.left r bytes) (RequestOutcome f.told i.left r) (λ other none. absurd none)
    (λ due o. fetched name bytes is has short o) f g h i j a b end stay quiet s

-- a request that reads no file
pub serves_alone : (f g : FilesSide) (r : Request) (i j : SourceSide) (a b : SinkSide) (end : End) → read_by r ≡ None
    → Serves NoFile (FileOutcome i.left r []) f g i j a b end → Serves (IsReadBy r) (RequestOutcome f.told i.left r) f g i j a b end
serves_alone f g r i j a b end is s =
    serves_behind NoFile (IsReadBy r) (FileOutcome i.left r []) (RequestOutcome f.told i.left r) (λ other none. absurd none)
    (λ due o. unfetched is o) f f g i j a b end (files_same f) refl s

-- words that are no request
pub serves_bad : (words : List (List ℕ)) (f : FilesSide) (error : WordsError) (i : SourceSide) (a : SinkSide)
    → Reads words (Err error) → Serves (AskToRead words) (Outcome words f.told i.left) f f i i a a (words_end error)
serves_bad ws f (words.Bad k) i a h = λ file.
    frame.done Kept (shown_in file (silent (Refused (refusal.BadWord k)))) (
      silent (Refused (refusal.BadWord k)),
      bad_word k h refl,
      refl,
      refl,
    ) refl refl (files_same f) refl
    (gains_none a)
serves_bad ws f words.Memory i a h = λ file. course_starved program (AskToRead ws) (MayCome file (Outcome ws f.told i.left)) f i a

-- words that are a request
pub serves_asked : (words : List (List ℕ)) (request : Request) (f g : FilesSide) (i j : SourceSide) (a b : SinkSide) (end : End)
    → words_of.Asks words request → Serves (IsReadBy request) (RequestOutcome f.told i.left request) f g i j a b end
    → Serves (AskToRead words) (Outcome words f.told i.left) f g i j a b end
serves_asked words request f g i j a b end h s =
    serves_behind (IsReadBy request) (AskToRead words) (RequestOutcome f.told i.left request) (Outcome words f.told i.left)
    (λ name is. (request, h, is)) (λ due o. asks request h o) f f g i j a b end (files_same f) refl s
