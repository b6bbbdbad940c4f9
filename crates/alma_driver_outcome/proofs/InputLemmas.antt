-- What becomes of the input in a run of a source.
use Rattle.std.proofs.Common.{◌≡◌, ◌≤◌, ◌∙◌, ℕ, List, [], ap, sym, subst, arith}
use Rattle.std.specs.Prelude.{Bool, true, Option, Some, None}
use Rattle.std.specs.Io.KnownBytes.{Consumes, IsAtEnd}
use Rattle.alma_base.specs.Limits.{size_limit, input_limit}
use Rattle.alma_io.specs.Whole.{MayHaveMore}
use Rattle.alma_ir.specs.Tree.{Program}
use Rattle.alma_lower_sound.specs.Reads.{program_reads}
use Rattle.alma_code.specs.Plain.{PlainCode}
use Rattle.alma_code.specs.Reads.{code_reads}
use Rattle.alma_run_laws.specs.Shown.{size_of}
use Rattle.alma_driver_outcome.specs.declared.end.End.{End}
use Rattle.alma_io.specs.Outside.{Outside, IsUndisturbed}
use Rattle.alma_driver_outcome.specs.Showing.{Prints}
use Rattle.alma_source.specs.Refusal.{IsProgramOf}
use Rattle.alma_driver_outcome.specs.Outcome.{Due, reading_of, InputOutcome, unread, taken, past_input, ProgramOutcome, ran}
use Rattle.alma_driver_outcome.specs.Outcome.{too_much_code}
use Rattle.alma_driver_outcome.specs.Outcome.{IsSourceEnd, refused, SourceOutcome, stopped, compiled}
use Rattle.alma_plan.specs.Course.{Takes}
use Rattle.alma_plan.specs.Plan.{Reading, Finished}
use Rattle.alma_source.proofs.RefusalLemmas.{one_program, refused_no_program}
use Rattle.alma_driver_outcome.specs.Scope.{Causes}
use Rattle.alma_driver_outcome.specs.Headline.{AsksToRun, IsInputLeft}
use Rattle.alma_driver_outcome.proofs.HeadlineLemmas.{whole_run}

-- nothing is left of what is told and was read to its end
all_read : (input bytes : List ℕ) (old new : Option (List ℕ)) → old ≡ Some input → Consumes old new bytes → IsAtEnd new → new ≡ Some []
all_read input bytes None new told c d = cc told
all_read input bytes (Some xs) None told c d = absurd c
all_read input bytes (Some xs) (Some ys) told c d = ap Some d

-- what becomes of the input where this is due and came
input_left : (words : List (List ℕ)) (source input : List ℕ) (steps : ℕ) (stats : Bool) (before after : Outside) (due : Due) (p : Program)
    → AsksToRun words before source input steps stats
    → SourceOutcome source (λ q. ProgramOutcome before.input.left q steps (Prints stats)) due
    → Takes due.reading before.input after.input → IsProgramOf source p → size_of p ≤ size_limit
    → IsInputLeft (program_reads p) before.input after.input
input_left words source input steps stats before after due p a o takes is small =
    by_source o
  where
    by_end : (end : End) → IsSourceEnd source end → IsInputLeft (program_reads p) before.input after.input
    by_end end (refused fault offset r e) = absurd (refused_no_program source fault offset p r is)

    by_input : (code : PlainCode) → (code_reads code ≡ true → before.input.left ≡ Some input)
        → InputOutcome before.input.left code steps (Prints stats) due → IsInputLeft (code_reads code) before.input after.input
    by_input code told (unread quiet e) =
        subst (λ (r : Bool). IsInputLeft r before.input after.input) (sym quiet)
        (subst (λ (r : Reading). Takes r before.input after.input) (ap (λ (d : Due). d.reading) e ∙ ap reading_of quiet) takes)
    by_input code told (taken other q l short e) =
        let all : Takes Finished before.input after.input =
        subst (λ (r : Reading). Takes r before.input after.input) (ap (λ (d : Due). d.reading) e ∙ ap reading_of q) takes in
        subst (λ (r : Bool). IsInputLeft r before.input after.input) (sym q)
        (all_read input all.0.0 before.input.left after.input.left (told q) all.0.1 all.0.2)
    by_input code told (past_input q more e) =
        let past : MayHaveMore (Some input) input_limit = subst (λ (o : Option (List ℕ)). MayHaveMore o input_limit) (told q) more in
        absurd (omega (arith, a.given.input_short, past))

    by_program : (q : Program) → IsProgramOf source q → ProgramOutcome before.input.left q steps (Prints stats) due
        → IsInputLeft (program_reads q) before.input after.input
    by_program q isq (ran code size is_code o) =
        subst (λ (r : Bool). IsInputLeft r before.input after.input) is_code.reads
        (by_input code (λ r. a.given.left q isq (sym is_code.reads ∙ r)) o)
    by_program q isq (too_much_code size e) = absurd (omega (arith, size, small, ap size_of (one_program source q p isq is)))

    by_source : SourceOutcome source (λ q. ProgramOutcome before.input.left q steps (Prints stats)) due
        → IsInputLeft (program_reads p) before.input after.input
    by_source (stopped end h e) = by_end end h
    by_source (compiled q isq o) =
        subst (λ (r : Program). IsInputLeft (program_reads r) before.input after.input) (one_program source q p isq is) (by_program q isq o)

-- and where nothing failed
pub input_read : (words : List (List ℕ)) (source input : List ℕ) (steps : ℕ) (stats : Bool) (before after : Outside) (status : ℕ)
    (p : Program)
    → AsksToRun words before source input steps stats → Causes words before after status → IsUndisturbed before after status
    → IsProgramOf source p
    → size_of p ≤ size_limit → IsInputLeft (program_reads p) before.input after.input
input_read words source input steps stats before after status p a c u is small =
    let w = whole_run words source input steps stats before after status a c u in
    input_left words source input steps stats before after w.due p a w.outcome w.takes is small
