-- Calls that check, compile or trace a source, or list or run an object, show what is due from it.
use Rattle.std.proofs.Common.{◌≡◌, ◌<◌, ◌≤◌, ◌∙◌, ℕ, List, [], length, ap, inl, inr, sym, subst, arith}
use Rattle.std.specs.Prelude.{Bool, true, Option, None, Some, codes, ◌⊎◌}
use Rattle.alma_base.specs.Limits.{input_limit, size_limit}
use Rattle.alma_io.specs.Files.{Has, MayHave, Told}
use Rattle.alma_io.specs.Outside.{Gains, Outside, IsUndisturbed, MayBeLeft, StoredFile}
use Rattle.alma_io.specs.Whole.{MayHaveMore}
use Rattle.alma_ir.specs.Tree.{Program}
use Rattle.alma_code.specs.Plain.{PlainCode}
use Rattle.alma_code.specs.Reads.{code_reads}
use Rattle.alma_code.specs.Rules.{code_fault}
use Rattle.alma_object.specs.Walk.{object_fault}
use Rattle.alma_code.specs.TraceText.{trace_text}
use Rattle.alma_verify.specs.Bytes.{object_code}
use Rattle.alma_lower.specs.CodeFor.{IsCodeFor}
use Rattle.alma_lower_implements.specs.Implements.{state_after, line_in}
use Rattle.alma_lower_sound.specs.Reads.{program_reads}
use Rattle.alma_run_laws.specs.Shown.{size_of, shown_end}
use Rattle.alma_run_laws.specs.Stored.{SpellsCodeOf}
use Rattle.alma_run_laws.proofs.Meant.{code_shows}
use Rattle.alma_run_laws.proofs.Spelled.{spelled_sound}
use Rattle.alma_driver_words.specs.Words.{Request, Run, Check, Compile, Exec, Listing, Sample, Trace, Asks, IsBadWord, IsRequest, file_of}
use Rattle.alma_driver_words.proofs.BadWords.{one_bad_word}
use Rattle.alma_driver_words.proofs.WordLemmas.{one_request}
use Rattle.alma_plan.specs.declared.refusal.Refusal.TheVariants as refusal
use Rattle.alma_driver_outcome.specs.Words.{IsReadBy, limit_of, read_by}
use Rattle.alma_driver_outcome.specs.Ends.{end_of_stop, ending_in, program, says}
use Rattle.alma_driver_outcome.proofs.CauseLemmas.{outcome_absent}
use Rattle.alma_plan.specs.declared.stop.Stop.TheVariants as stop
use Rattle.alma_plan.specs.Plan as plan
use Rattle.alma_plan.specs.Plan.{Ending}
use Rattle.alma_plan.specs.Course.{Reports, said, unsaid}
use Rattle.alma_plan.specs.Causes.{MayEnd, unread_end, unwritten_end, starved_end, due_end}
use Rattle.alma_driver_outcome.specs.declared.end.End.TheVariants.{Refused}
use Rattle.alma_plan.specs.Undisturbed.{ShowsDue}
use Rattle.alma_source.specs.Refusal.{IsProgramOf}
use Rattle.alma_source.proofs.RefusalLemmas.{one_program, only_fault, refused_no_program}
use Rattle.alma_driver_outcome.specs.Commands.{AsksOf, GivesInput, ShowsRefusal, ShowsSize, CheckEnds, CompileEnds, TraceEnds, ProgramEnds}
use Rattle.alma_driver_outcome.specs.Commands.{ListingEnds, ObjectEnds, ShowsMissing, ShowsCodeRun, ShowsSample, ShowsTrace, input_by}
use Rattle.alma_driver_outcome.specs.Commands.{PassesInput, accepts, lists, runs, stores, traces}
use Rattle.alma_driver_outcome.specs.Commands as shown
use Rattle.alma_driver_outcome.specs.Headline.{ShowsEnd}
use Rattle.alma_driver_outcome.specs.Outcome.{Due, silent, code_due, InputOutcome, unread, taken, past_input, ProgramOutcome, ran}
use Rattle.alma_driver_outcome.specs.Outcome.{too_much_code, IsSourceEnd, refused, SourceOutcome, stopped, compiled, CheckOutcome}
use Rattle.alma_driver_outcome.specs.Outcome.{ListOutcome, listed, no_object, Outcome, bad_word, asks, Lacks, SampleOutcome, summed}
use Rattle.alma_driver_outcome.specs.Outcome.{RequestOutcome, absent, past_limit, fetched, unfetched}
use Rattle.alma_driver_outcome.specs.Outcome.{CompileOutcome, made, past_size, ExecOutcome, opened, unopened, executed, unsound}
use Rattle.alma_driver_outcome.specs.Parts.{shown_in}
use Rattle.alma_driver_outcome.specs.Scope.{Causes, scope_of}
use Rattle.alma_driver_outcome.specs.Showing.{Showing, Prints, Traces}
use Rattle.alma_driver_outcome.specs.declared.end.End.{End}
use Rattle.alma_driver_outcome.proofs.HeadlineLemmas.{program_ends}
use Rattle.alma_driver_outcome.proofs.RunLemmas.{told_is}
use Rattle.alma_driver_outcome.proofs.StoredLemmas.{spells_stored}
use Rattle.alma_driver_outcome.proofs.WholeCalls.{Came, CameWhole, whole_call, whole_words}

module _ (words : List (List ℕ)) (before after : Outside) (status : ℕ) where
  -- what is due came
  abbrev CameDue : Due → Type 0
  CameDue due = ShowsDue before after status (shown_in (file_of words) due)

  -- a source that is refused
  refusal_of : (source : List ℕ) (due : Due) (end : End) → due ≡ silent end → CameDue due → IsSourceEnd source end
      → ShowsRefusal words before after status source
  refusal_of source due end d h (refused fault offset r e) = record {
    fault = fault;
    offset = offset;
    only = only_fault source fault offset r;
    shows = subst CameDue (d ∙ ap silent e) h;
  }

  -- a source that is checked
  check_of : (source : List ℕ) (due : Due) → CameDue due → SourceOutcome source CheckOutcome due
      → CheckEnds words before after status source
  check_of source due h (stopped end r e) = shown.CheckEnds.refuses (refusal_of source due end e h r)
  check_of source due h (compiled p is e) = accepts p is (subst CameDue e h)

  -- a source that is compiled
  compile_of : (source object : List ℕ) (due : Due) → CameDue due → SourceOutcome source (λ p. CompileOutcome p object) due
      → CompileEnds words before after status source object
  compile_of source object due h (stopped end r e) = shown.CompileEnds.refuses (refusal_of source due end e h r)
  compile_of source object due h (compiled p is (past_size size e)) =
      shown.CompileEnds.too_large (record { program = p; is = is; large = size; shows = subst CameDue e h })
  compile_of source object due h (compiled p is (made code bytes size is_code is_object fits e)) =
      let stored : StoredFile = record { name = object; bytes = bytes } in
      let spells = spells_stored p object due stored (made code bytes size is_code is_object fits e) (ap (λ (d : Due). d.stored) e) in
      stores p bytes is size spells (subst CameDue e h)

  module _ (p : Program) (code : PlainCode) (is_code : IsCodeFor p code) (steps : ℕ) (watch : List (List ℕ)) (due : Due) (h : CameDue
      due) where
    -- a trace of a run on this input
    trace_on : (input : List ℕ) → length input ≤ input_limit → due ≡ code_due code input steps (Traces watch)
        → ShowsTrace words before after status p input steps watch
    trace_on input short e =
        let s = state_after code input steps in
        let end = shown_end s.mode (line_in code s) in
        record {
          code = code;
          is_code = is_code;
          end = end;
          meant = code_shows code p input steps is_code.implements short;
          shows = subst (λ (x : End). ShowsEnd words before after status x (trace_text code input watch steps))
              (told_is s.mode (line_in code s) None) (subst CameDue e h);
        }

    -- the same by whether the program reads
    trace_by : (input : List ℕ) → GivesInput before p input → InputOutcome before.input.left code steps (Traces watch) due
        → ShowsTrace words before after status p (input_by (code_reads code) input) steps watch
    trace_by input given (unread quiet e) =
        subst (λ (r : Bool). ShowsTrace words before after status p (input_by r input) steps watch) (sym quiet)
        (trace_on [] (omega arith) e)
    trace_by input given (taken other reads l short e) =
        let left = given.left (sym is_code.reads ∙ reads) in
        let same : input ≡ other = subst (λ (o : Option (List ℕ)). MayBeLeft o other) left l in
        subst (λ (r : Bool). ShowsTrace words before after status p (input_by r input) steps watch) (sym reads)
        (trace_on input given.short (e ∙ ap (λ (i : List ℕ). code_due code i steps (Traces watch)) (sym same)))
    trace_by input given (past_input reads more e) =
        let left = given.left (sym is_code.reads ∙ reads) in
        let past : MayHaveMore (Some input) input_limit = subst (λ (o : Option (List ℕ)). MayHaveMore o input_limit) left more in
        absurd (omega (arith, given.short, past))

  -- a source that is traced
  trace_of : (source input : List ℕ) (steps : ℕ) (watch : List (List ℕ)) (due : Due)
      → ((p : Program) → IsProgramOf source p → GivesInput before p input) → CameDue due
      → SourceOutcome source (λ p. ProgramOutcome before.input.left p steps (Traces watch)) due
      → TraceEnds words before after status source input steps watch
  trace_of source input steps watch due given h (stopped end r e) = shown.TraceEnds.refuses (refusal_of source due end e h r)
  trace_of source input steps watch due given h (compiled p is (too_much_code size e)) =
      shown.TraceEnds.too_large (record { program = p; is = is; large = size; shows = subst CameDue e h })
  trace_of source input steps watch due given h (compiled p is (ran code size is_code o)) =
      traces p is size
      (subst (λ (r : Bool). ShowsTrace words before after status p (input_by r input) steps watch) is_code.reads
      (trace_by p code is_code steps watch due h input (given p is) o))

  -- an object of a program that is run
  exec_of : (p : Program) (bytes input : List ℕ) (steps : ℕ) (stats : Bool) (due : Due) → SpellsCodeOf p bytes
      → GivesInput before p input → CameDue due → ExecOutcome before.input.left bytes steps stats due
      → ProgramEnds words before after status p input steps stats
  exec_of p bytes input steps stats due is given h (opened clean (executed c o)) =
      program_ends words p input steps stats before after status (object_code bytes) due (λ r. given.left (sym is.code.reads ∙ r))
      given.short is.code.implements h o
  exec_of p bytes input steps stats due is given h (opened clean (unsound fault c e)) = cc (spelled_sound p bytes is, c)
  exec_of p bytes input steps stats due is given h (unopened fault c e) = cc (is.clean, c)

  -- bytes that are listed
  list_of : (bytes : List ℕ) (due : Due) → CameDue due → ListOutcome bytes due → ListingEnds words before after status bytes
  list_of bytes due h (listed clean is e) = lists clean is (subst CameDue e h)
  list_of bytes due h (no_object fault is e) = shown.ListingEnds.no_object fault is (subst CameDue e h)

  -- bytes that are run
  module _ (bytes input : List ℕ) (steps : ℕ) (stats : Bool) (due : Due) (h : CameDue due) where
    abbrev ran_on : List ℕ → Type 0
    ran_on i = ShowsCodeRun words before after status (object_code bytes) i steps stats

    run_by : (code_reads (object_code bytes) ≡ true → before.input.left ≡ Some input) → length input ≤ input_limit
        → InputOutcome before.input.left (object_code bytes) steps (Prints stats) due
        → ran_on (input_by (code_reads (object_code bytes)) input)
    run_by told short (unread quiet e) = subst (λ (r : Bool). ran_on (input_by r input)) (sym quiet) (subst CameDue e h)
    run_by told short (taken other reads l few e) =
        let same : input ≡ other = subst (λ (o : Option (List ℕ)). MayBeLeft o other) (told reads) l in
        subst (λ (r : Bool). ran_on (input_by r input)) (sym reads) (subst ran_on (sym same) (subst CameDue e h))
    run_by told short (past_input reads more e) =
        let past : MayHaveMore (Some input) input_limit = subst (λ (o : Option (List ℕ)). MayHaveMore o input_limit) (told reads) more in
        absurd (omega (arith, short, past))

    object_of : (code_reads (object_code bytes) ≡ true → before.input.left ≡ Some input) → length input ≤ input_limit
        → ExecOutcome before.input.left bytes steps stats due → ObjectEnds words before after status bytes input steps stats
    object_of told short (unopened fault is e) = shown.ObjectEnds.no_object fault is (subst CameDue e h)
    object_of told short (opened clean (unsound fault is e)) = shown.ObjectEnds.unsound fault clean is (subst CameDue e h)
    object_of told short (opened clean (executed sound o)) = runs clean sound (run_by told short o)

  -- ---- where nothing failed

  pub check_ends : (name source : List ℕ) → AsksOf words (Check name) before source → Causes words before after status
      → IsUndisturbed before after status → CheckEnds words before after status source
  check_ends name source a c u =
      let w = whole_call words (Check name) source before after status a c u in check_of source w.due w.shows w.outcome

  pub compile_ends : (name object source : List ℕ) → AsksOf words (Compile name object) before source
      → Causes words before after status → IsUndisturbed before after status → CompileEnds words before after status source object
  compile_ends name object source a c u =
      let w = whole_call words (Compile name object) source before after status a c u in compile_of source object w.due w.shows w.outcome

  pub trace_ends : (name source input : List ℕ) (steps : ℕ) (watch : List (List ℕ)) → AsksOf words (Trace name steps watch) before source
      → ((p : Program) → IsProgramOf source p → GivesInput before p input) → Causes words before after status
      → IsUndisturbed before after status → TraceEnds words before after status source input steps watch
  trace_ends name source input steps watch a given c u =
      let w = whole_call words (Trace name steps watch) source before after status a c u in
      trace_of source input steps watch w.due given w.shows w.outcome

  pub exec_ends : (object bytes input : List ℕ) (steps : ℕ) (stats : Bool) (p : Program)
      → AsksOf words (Exec object steps stats) before bytes
      → SpellsCodeOf p bytes → GivesInput before p input → Causes words before after status
      → IsUndisturbed before after status → ProgramEnds words before after status p input steps stats
  exec_ends object bytes input steps stats p a is given c u =
      let w = whole_call words (Exec object steps stats) bytes before after status a c u in
      exec_of p bytes input steps stats w.due is given w.shows w.outcome

  pub list_ends : (object bytes : List ℕ) → AsksOf words (Listing object) before bytes → Causes words before after status
      → IsUndisturbed before after status → ListingEnds words before after status bytes
  list_ends object bytes a c u =
      let w = whole_call words (Listing object) bytes before after status a c u in list_of bytes w.due w.shows w.outcome

  pub object_ends : (object bytes input : List ℕ) (steps : ℕ) (stats : Bool) → AsksOf words (Exec object steps stats) before bytes
      → (code_reads (object_code bytes) ≡ true → before.input.left ≡ Some input) → length input ≤ input_limit
      → Causes words before after status → IsUndisturbed before after status
      → ObjectEnds words before after status bytes input steps stats
  object_ends object bytes input steps stats a told short c u =
      let w = whole_call words (Exec object steps stats) bytes before after status a c u in
      object_of bytes input steps stats w.due w.shows told short w.outcome

  -- ---- words that name no file to read

  -- a bad word is told
  pub bad_word_told : (k : ℕ) → IsBadWord words k → Causes words before after status → IsUndisturbed before after status
      → ShowsEnd words before after status (Refused (refusal.BadWord k)) []
  bad_word_told k bad c u = by w.outcome
    where
      w : Came words before after status
      w = whole_words words before after status (λ l. bad.none (l.0, l.2)) c u

      by : Outcome words before.files.told before.input.left w.due → ShowsEnd words before after status (Refused (refusal.BadWord k)) []
      by (bad_word j other e) =
          let same : j ≡ k = one_bad_word IsRequest words j k other bad in
          subst CameDue (e ∙ ap (λ (n : ℕ). silent (Refused (refusal.BadWord n))) same) w.shows
      by (asks r h o) = absurd (bad.none (r, h))

  -- a sample is summed up
  pub sample_told : (lines : ℕ) → Asks words (Sample lines) → Causes words before after status → IsUndisturbed before after status
      → ShowsSample words before after status lines
  sample_told lines a c u = by_words w.outcome
    where
      reads_none : Lacks words before.files.told → ⊥
      reads_none l =
          let same : l.0 ≡ Sample lines = one_request words l.0 (Sample lines) l.2 a in
          cc (sym (ap read_by same) ∙ l.3)

      w : Came words before after status
      w = whole_words words before after status reads_none c u

      by_sample : SampleOutcome lines w.due → ShowsSample words before after status lines
      by_sample (summed printed status_of_run sampled e) =
          record { printed = printed; status_of_run = status_of_run; sampled = sampled; shows = subst CameDue e w.shows }

      by_request : RequestOutcome before.files.told before.input.left (Sample lines) w.due → ShowsSample words before after status lines
      by_request (absent n is gone e) = cc is
      by_request (past_limit n is past e) = cc is
      by_request (fetched n bytes is may few o) = cc is
      by_request (unfetched is o) = by_sample o

      by_words : Outcome words before.files.told before.input.left w.due → ShowsSample words before after status lines
      by_words (bad_word k bad e) = absurd (bad.none (Sample lines, a))
      by_words (asks r h o) =
          by_request
          (subst (λ (q : Request). RequestOutcome before.files.told before.input.left q w.due) (one_request words r (Sample lines) h a) o)

  -- ---- files that are missing or too long

  -- a file that is too long is told
  pub long_told : (r : Request) (name bytes : List ℕ) → Asks words r → IsReadBy r name → before.files.told name ≡ Has bytes
      → limit_of r < length bytes → Causes words before after status → IsUndisturbed before after status
      → ShowsEnd words before after status (end_of_stop stop.TooLong) []
  long_told r name bytes a reads has long c u = by_words w.outcome
    where
      there : Lacks words before.files.told → ⊥
      there l =
          let same : l.0 ≡ r = one_request words l.0 r l.2 a in
          let one : name ≡ l.1 = cc (sym reads ∙ sym (ap read_by same) ∙ l.3) in
          cc (sym has ∙ ap before.files.told one ∙ l.4)

      w : Came words before after status
      w = whole_words words before after status there c u

      by_request : RequestOutcome before.files.told before.input.left r w.due
          → ShowsEnd words before after status (end_of_stop stop.TooLong) []
      by_request (absent n is gone e) =
          let same : name ≡ n = cc (sym reads ∙ is) in cc (sym has ∙ ap before.files.told same ∙ gone)
      by_request (past_limit n is past e) = subst CameDue e w.shows
      by_request (fetched n other is may few o) =
          let same : name ≡ n = cc (sym reads ∙ is) in
          let one : bytes ≡ other = subst (λ (t : Told). MayHave t other) (ap before.files.told (sym same) ∙ has) may in
          absurd (omega (arith, long, few, ap (λ (b : List ℕ). length b) one))
      by_request (unfetched is o) = cc (sym reads ∙ is)

      by_words : Outcome words before.files.told before.input.left w.due
          → ShowsEnd words before after status (end_of_stop stop.TooLong) []
      by_words (bad_word k bad e) = absurd (bad.none (r, a))
      by_words (asks q h o) =
          by_request
          (subst (λ (x : Request). RequestOutcome before.files.told before.input.left x w.due) (one_request words q r h a) o)

  -- one that is missing is a read fault
  pub missing_told : Lacks words before.files.told → Causes words before after status → IsUndisturbed before after status
      → ShowsMissing words before after status
  missing_told l c u = record {
    status_is = six;
    nothing = c.nothing six;
    told = by_end c.reported.0 c.reported.1 c.reported.2;
    files =
        c.files_stay (inl six);
  }
    where
      by_status : (status ≡ 6) ⊎ ((status ≡ 7) ⊎ (status ≡ 8)) → status ≡ 6
      by_status (inl e) = e
      by_status (inr (inl e)) = absurd (u.no_write_failed (c.write_fault_is e))
      by_status (inr (inr e)) = absurd (u.memory e)

      six : status ≡ 6
      six = by_status (c.absence_shown l)

      text_is : (end : Ending) → MayEnd program (scope_of words before).may end → end.status ≡ 6 → end.text ≡ says (codes "read fault")
      text_is end (unread_end e) s = ap (λ (x : Ending). x.text) e
      text_is end (unwritten_end e) s = absurd (omega (arith, s, ap (λ (x : Ending). x.status) e))
      text_is end (starved_end e) s = absurd (omega (arith, s, ap (λ (x : Ending). x.status) e))
      text_is end (due_end reading due m e) s =
          let read = outcome_absent before.files.told before.input.left words m.0 l m.1 in
          ap (λ (x : Ending). x.text) (sym e ∙ ap (λ (d : plan.Due). d.end) m.3 ∙ ap (λ (x : End). ending_in (file_of words) x) read)

      by_end : (end : Ending) → MayEnd program (scope_of words before).may end → Reports end before.err after.err status
          → Gains before.err after.err (says (codes "read fault"))
      by_end end m (said s g) = subst (Gains before.err after.err) (text_is end m (sym s ∙ six)) g
      by_end end m (unsaid s f) = absurd (omega (arith, s, six))

  -- ---- an input that is too long

  -- code that reads does not run on one
  input_refused : (code : PlainCode) (input : List ℕ) (steps : ℕ) (showing : Showing) (due : Due) → code_reads code ≡ true
      → PassesInput before input → CameDue due → InputOutcome before.input.left code steps showing due
      → ShowsEnd words before after status (end_of_stop stop.TooLong) []
  input_refused code input steps showing due reads past h (unread quiet e) = absurd (cc (quiet, reads))
  input_refused code input steps showing due reads past h (taken other is l short e) =
      let same : input ≡ other = subst (λ (o : Option (List ℕ)). MayBeLeft o other) past.left l in
      absurd (omega (arith, past.long, short, ap (λ (b : List ℕ). length b) same))
  input_refused code input steps showing due reads past h (past_input is more e) = subst CameDue e h

  -- nor does a program that reads, in a run or a trace of its source
  source_input_refused : (source input : List ℕ) (p : Program) (steps : ℕ) (showing : Showing) (due : Due) → IsProgramOf source p
      → size_of p ≤ size_limit → program_reads p ≡ true → PassesInput before input → CameDue due
      → SourceOutcome source (λ q. ProgramOutcome before.input.left q steps showing) due
      → ShowsEnd words before after status (end_of_stop stop.TooLong) []
  source_input_refused source input p steps showing due is small reads past h (stopped end (refused fault offset r e) d) =
      absurd (refused_no_program source fault offset p r is)
  source_input_refused source input p steps showing due is small reads past h (compiled q isq (too_much_code size e)) =
      absurd (omega (arith, size, small, ap size_of (one_program source q p isq is)))
  source_input_refused source input p steps showing due is small reads past h (compiled q isq (ran code size is_code o)) =
      input_refused code input steps showing due (is_code.reads ∙ ap program_reads (one_program source q p isq is) ∙ reads) past h o

  pub run_input_refused : (name source input : List ℕ) (steps : ℕ) (stats : Bool) (p : Program)
      → AsksOf words (Run name steps stats) before source → IsProgramOf source p → size_of p ≤ size_limit → program_reads p ≡ true
      → PassesInput before input → Causes words before after status → IsUndisturbed before after status
      → ShowsEnd words before after status (end_of_stop stop.TooLong) []
  run_input_refused name source input steps stats p a is small reads past c u =
      let w = whole_call words (Run name steps stats) source before after status a c u in
      source_input_refused source input p steps (Prints stats) w.due is small reads past w.shows w.outcome

  pub trace_input_refused : (name source input : List ℕ) (steps : ℕ) (watch : List (List ℕ)) (p : Program)
      → AsksOf words (Trace name steps watch) before source → IsProgramOf source p → size_of p ≤ size_limit → program_reads p ≡ true
      → PassesInput before input → Causes words before after status → IsUndisturbed before after status
      → ShowsEnd words before after status (end_of_stop stop.TooLong) []
  trace_input_refused name source input steps watch p a is small reads past c u =
      let w = whole_call words (Trace name steps watch) source before after status a c u in
      source_input_refused source input p steps (Traces watch) w.due is small reads past w.shows w.outcome

  pub exec_input_refused : (object bytes input : List ℕ) (steps : ℕ) (stats : Bool) → AsksOf words (Exec object steps stats) before bytes
      → object_fault bytes ≡ None → code_fault (object_code bytes) ≡ None → code_reads (object_code bytes) ≡ true
      → PassesInput before input → Causes words before after status → IsUndisturbed before after status
      → ShowsEnd words before after status (end_of_stop stop.TooLong) []
  exec_input_refused object bytes input steps stats a clean sound reads past c u = by w.outcome
    where
      w : CameWhole words (Exec object steps stats) bytes before after status
      w = whole_call words (Exec object steps stats) bytes before after status a c u

      by : ExecOutcome before.input.left bytes steps stats w.due → ShowsEnd words before after status (end_of_stop stop.TooLong) []
      by (opened is (executed s o)) = input_refused (object_code bytes) input steps (Prints stats) w.due reads past w.shows o
      by (opened is (unsound fault f e)) = absurd (cc (sound, f))
      by (unopened fault f e) = absurd (cc (clean, f))
