-- The headline: a run of a source shows what its program means.
use Rattle.std.proofs.Common.{◌≡◌, ◌≤◌, ◌+◌, ◌*◌, ◌∙◌, ℕ, suc, List, [], length, ap, refl, sym, subst, arith}
use Rattle.std.specs.Prelude.{Bool, true, Option, None, Some}
use Rattle.alma_base.specs.Limits.{size_limit, input_limit}
use Rattle.alma_io.specs.Whole.{MayHaveMore}
use Rattle.alma_ir.specs.Tree.{Program}
use Rattle.alma_mean.specs.Events as events
use Rattle.alma_mean.specs.Events.{first, end_of, visit_count, CutOff}
use Rattle.alma_mean.specs.Meaning.{ev_program, result}
use Rattle.alma_code.specs.Plain.{PlainCode}
use Rattle.alma_code.specs.Reads.{code_reads}
use Rattle.alma_lower_implements.specs.Implements.{Implements}
use Rattle.alma_lower_sound.specs.Reads.{program_reads}
use Rattle.alma_run_laws.specs.Shown as run_laws
use Rattle.alma_run_laws.specs.Shown.{size_of, MayRunOut, whole, front}
use Rattle.alma_run_laws.proofs.Meant.{same_result}
use Rattle.alma_driver_words.specs.Words.{Run, file_of}
use Rattle.alma_driver_outcome.specs.Showing.{Prints}
use Rattle.alma_io.specs.Outside.{Outside, IsUndisturbed, MayBeLeft}
use Rattle.alma_plan.specs.Undisturbed.{ShowsDue}
use Rattle.alma_source.specs.Refusal.{IsProgramOf}
use Rattle.alma_driver_outcome.specs.Outcome.{Due, silent, code_due, InputOutcome, unread, taken, past_input, ProgramOutcome}
use Rattle.alma_driver_outcome.specs.Outcome.{ran, too_much_code, told_end, MeansOn, IsSourceEnd, refused, SourceOutcome, stopped}
use Rattle.alma_driver_outcome.specs.Outcome.{compiled}
use Rattle.alma_driver_outcome.specs.Parts.{shown_in}
use Rattle.alma_driver_outcome.specs.Scope.{Causes}
use Rattle.alma_driver_outcome.specs.Headline.{AsksToRun, ShowsResult, RunEnds, refuses, too_large, ended, ran_out}
use Rattle.alma_driver_outcome.specs.Commands as shown
use Rattle.alma_driver_outcome.specs.Commands.{AsksOf, ProgramEnds}
use Rattle.alma_driver_outcome.specs.declared.end.End.{End}
use Rattle.alma_driver_outcome.specs.declared.end.End.TheVariants.{StepsOut}
use Rattle.alma_driver_outcome.proofs.RunLemmas.{code_means}
use Rattle.alma_source.proofs.RefusalLemmas.{only_fault, one_program, refused_no_program}
use Rattle.alma_driver_outcome.proofs.Unread.{due_alike}
use Rattle.alma_driver_outcome.proofs.WholeCalls.{CameWhole, shows_end, whole_call}

-- ---- a run on an input that is told where it is read

-- what is due from the code of a program is what the program means
run_means : (left : Option (List ℕ)) (input : List ℕ) (p : Program) (code : PlainCode) (steps : ℕ) (stats : Bool) (due : Due)
    → (code_reads code ≡ true → left ≡ Some input)
    → length input ≤ input_limit
    → Implements code p
    → InputOutcome left code steps (Prints stats) due → MeansOn p input steps stats due
run_means left input p code steps stats due told short implements (unread quiet e) =
    subst (MeansOn p input steps stats) (sym (e ∙ due_alike code [] input steps stats quiet))
    (code_means p code input steps stats implements short)
run_means left input p code steps stats due told short implements (taken other reads l s e) =
    let same : input ≡ other = subst (λ (o : Option (List ℕ)). MayBeLeft o other) (told reads) l in
    subst (MeansOn p input steps stats) (sym (e ∙ ap (λ (i : List ℕ). code_due code i steps (Prints stats)) (sym same)))
    (code_means p code input steps stats implements short)
run_means left input p code steps stats due told short implements (past_input reads more e) =
    let past : MayHaveMore (Some input) input_limit = subst (λ (o : Option (List ℕ)). MayHaveMore o input_limit) (told reads) more in
    absurd (omega (arith, short, past))

-- ---- what a call shows

-- a run stores nothing
stores_nothing : (left : Option (List ℕ)) (code : PlainCode) (steps : ℕ) (stats : Bool) (due : Due)
    → InputOutcome left code steps (Prints stats) due → due.stored ≡ None
stores_nothing left code steps stats due (unread quiet e) = ap (λ (d : Due). d.stored) e
stores_nothing left code steps stats due (taken input reads l s e) = ap (λ (d : Due). d.stored) e
stores_nothing left code steps stats due (past_input reads more e) = ap (λ (d : Due). d.stored) e

-- a program that was run by such code shows its result, or a front of its prints
pub program_ends : (words : List (List ℕ)) (p : Program) (input : List ℕ) (steps : ℕ) (stats : Bool) (before after : Outside) (status : ℕ)
    (code : PlainCode) (due : Due) → (code_reads code ≡ true → before.input.left ≡ Some input) → length input ≤ input_limit
    → Implements code p → ShowsDue before after status (shown_in (file_of words) due)
    → InputOutcome before.input.left code steps (Prints stats) due → ProgramEnds words before after status p input steps stats
program_ends words p input steps stats before after status code due told short implements h o = by m.shows
  where
    m : MeansOn p input steps stats due
    m = run_means before.input.left input p code steps stats due told short implements o

    none : due.stored ≡ None
    none = stores_nothing before.input.left code steps stats due o

    by : run_laws.Shows p input steps due.out m.end → ProgramEnds words before after status p input steps stats
    by (whole uncut r) =
        let all : ShowsResult words stats (due.out, m.end) before after status = record {
          uncut = uncut;
          counts = m.counts;
          counted = m.counted;
          shows = shows_end words before after status due (told_end m.end m.counts) m.ends none h;
        } in
        shown.ended (subst (λ (x : List ℕ × events.End). ShowsResult words stats x before after status) (sym r) all)
    by (front cut covers few) =
        let out : due.end ≡ StepsOut m.counts = m.ends ∙ ap (λ (e : events.End). told_end e m.counts) cut in
        shown.ran_out (record {
          printed = due.out;
          covers = covers;
          few = few;
          counts = m.counts;
          counted = m.counted;
          shows = shows_end words before after status due (StepsOut m.counts) out none h;
        })

module _ (words : List (List ℕ)) (source input : List ℕ) (steps : ℕ) (stats : Bool) (before after : Outside) (status : ℕ) where
  -- a program that was run
  ends_meant : (p : Program) → IsProgramOf source p → size_of p ≤ size_limit → ProgramEnds words before after status p input steps stats
      → RunEnds words source input steps stats before after status
  ends_meant p is size (shown.ended h) = ended p is size h
  ends_meant p is size (shown.ran_out h) = ran_out p is size h

  -- a program that was run on an input that is told where it is read, or is too large
  ends_program : (p : Program) (due : Due) → (program_reads p ≡ true → before.input.left ≡ Some input) → length input ≤ input_limit
      → IsProgramOf source p → ShowsDue before after status (shown_in (file_of words) due)
      → ProgramOutcome before.input.left p steps (Prints stats) due
      → RunEnds words source input steps stats before after status
  ends_program p due told short is h (ran code size is_code o) =
      ends_meant p is size
      (program_ends words p input steps stats before after status code due (λ r. told (sym is_code.reads ∙ r)) short is_code.implements h o)
  ends_program p due told short is h (too_much_code size e) =
      too_large p is size (subst (λ (d : Due). ShowsDue before after status (shown_in (file_of words) d)) e h)

  -- a source that is refused
  ends_refused : (due : Due) (end : End) → due ≡ silent end → ShowsDue before after status (shown_in (file_of words) due)
      → IsSourceEnd source end
      → RunEnds words source input steps stats before after status
  ends_refused due end d h (refused fault offset r e) =
      refuses fault offset (only_fault source fault offset r)
      (subst (λ (d : Due). ShowsDue before after status (shown_in (file_of words) d)) (d ∙ ap silent e) h)

  -- what a source comes to
  ends_of : (due : Due) → AsksToRun words before source input steps stats → ShowsDue before after status (shown_in (file_of words) due)
      → SourceOutcome source (λ p. ProgramOutcome before.input.left p steps (Prints stats)) due
      → RunEnds words source input steps stats before after status
  ends_of due a h (stopped end r e) = ends_refused due end e h r
  ends_of due a h (compiled p is o) = ends_program p due (a.given.left p is) a.given.input_short is h o

-- ---- the headline

-- what the words ask for
pub asks_of : (words : List (List ℕ)) (before : Outside) (source input : List ℕ) (steps : ℕ) (stats : Bool)
    (a : AsksToRun words before source input steps stats) → AsksOf words (Run a.name steps stats) before source
asks_of words before source input steps stats a =
    record { asks = a.asks; name = a.name; reads = refl; told = a.given.told; short = a.given.source_short }

-- all that is due from a run came where nothing failed
pub whole_run : (words : List (List ℕ)) (source input : List ℕ) (steps : ℕ) (stats : Bool) (before after : Outside) (status : ℕ)
    (a : AsksToRun words before source input steps stats) → Causes words before after status → IsUndisturbed before after status
    → CameWhole words (Run a.name steps stats) source before after status
whole_run words source input steps stats before after status a c u =
    whole_call words (Run a.name steps stats) source before after status (asks_of words before source input steps stats a) c u

-- what a run shows where nothing failed
pub run_ends : (words : List (List ℕ)) (source input : List ℕ) (steps : ℕ) (stats : Bool) (before after : Outside) (status : ℕ)
    → AsksToRun words before source input steps stats → Causes words before after status → IsUndisturbed before after status
    → RunEnds words source input steps stats before after status
run_ends words source input steps stats before after status a c u =
    let w = whole_run words source input steps stats before after status a c u in
    ends_of words source input steps stats before after status w.due a w.shows w.outcome

-- ---- enough steps

-- a result is shown for each level that is not cut off
shows_level : (words : List (List ℕ)) (p : Program) (input : List ℕ) (steps level : ℕ) (stats : Bool) (before after : Outside) (status : ℕ)
    → (end_of (first (ev_program level p input)) ≡ CutOff → ⊥)
    → ShowsResult words stats (result (suc steps) p input) before after status
    → ShowsResult words stats (result level p input) before after status
shows_level words p input steps level stats before after status uncut h =
    subst (λ (m : List ℕ × events.End). ShowsResult words stats m before after status) (same_result p input (suc steps) level h.uncut uncut)
    h

-- where the steps are enough the result is shown
pub enough_steps : (words : List (List ℕ)) (source input : List ℕ) (steps : ℕ) (stats : Bool) (before after : Outside) (status : ℕ)
    (p : Program) (level : ℕ)
    → AsksToRun words before source input steps stats → Causes words before after status → IsUndisturbed before after status
    → IsProgramOf source p
    → size_of p ≤ size_limit → (end_of (first (ev_program level p input)) ≡ CutOff → ⊥)
    → 32 * (visit_count (first (ev_program level p input)) + 1) ≤ steps → ShowsResult words stats (result level p input) before after status
enough_steps words source input steps stats before after status p level a c u is size uncut many =
    by (run_ends words source input steps stats before after status a c u)
  where
    by : RunEnds words source input steps stats before after status → ShowsResult words stats (result level p input) before after status
    by (refuses fault offset only shown) = absurd (refused_no_program source fault offset p only.refused is)
    by (too_large q isq big shown) = absurd (omega (arith, size, big, ap size_of (one_program source q p isq is)))
    by (ended q isq small_q h) =
        shows_level words p input steps level stats before after status uncut
        (subst (λ (r : Program). ShowsResult words stats (result (suc steps) r input) before after status) (one_program source q p isq is)
        h)
    by (ran_out q isq small_q f) =
        let few = subst (λ (r : Program). MayRunOut r input steps) (one_program source q p isq is) f.few in
        absurd (omega (arith, few level uncut, many))
