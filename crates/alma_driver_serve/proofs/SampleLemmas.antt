-- What the run of a sample comes to.
use Rattle.std.proofs.Common.{◌≡◌, ◌∙◌, ◌++◌, ℕ, List, [], length, inl, inr, refl, ap, sym, subst, arith}
use Rattle.std.specs.Prelude.{false, Option, Some, None, codes}
use Rattle.alma_driver_words.specs.Sample.{sample_text}
use Rattle.alma_driver_words.specs.Words.{default_steps}
use Rattle.alma_io.specs.Files.{Untold}
use Rattle.alma_io.specs.Sides.{SinkSide, SourceSide, FilesSide}
use Rattle.alma_plan.specs.Course.{Course, unfetched, unread, unwritten, unstored, starved, starved_within, done}
use Rattle.alma_plan.specs.Plan as plan
use Rattle.alma_plan.specs.Plan.{Ending}
use Rattle.alma_plan.proofs.Owns.{IsOwnStatus, own_status}
use Rattle.alma_driver_outcome.specs.Ends.{ending_in, program, status_of, sample_line, summary_line}
use Rattle.alma_driver_outcome.specs.Showing.{Prints}
use Rattle.alma_driver_outcome.specs.Outcome.{Due, due_of, ProgramOutcome, SourceOutcome, IsSampled, SampleOutcome, summed}
use Rattle.alma_driver_outcome.specs.Parts.{Goes, MayCome, NoFile, Runs}
use Rattle.alma_driver_outcome.specs.declared.end.End.{End}
use Rattle.alma_driver_outcome.specs.declared.end.End.TheVariants.{Succeeded, Failed, Faulted, StepsOut, BadSource, TooMuchCode, Refused}
use Rattle.alma_plan.specs.declared.refusal.Refusal.{Refusal}
use Rattle.alma_driver_outcome.proofs.CourseLemmas.{goes_map}

-- the sides of a sink and of a source by their parts
abbrev pub sink_side : Option (List ℕ) → ℕ → SinkSide
sink_side written faults = record { written = written; faults = faults }

abbrev pub source_side : Option (List ℕ) → ℕ → SourceSide
source_side left faults = record { left = left; faults = faults }

-- the end is none of those to which every program may come
pub record IsOwn (end : End) : Type 0 where
  pub not_refused : (refusal : Refusal) → end ≡ Refused refusal → ⊥

own_statuses : (end : End) → IsOwn end → IsOwnStatus (status_of end)
own_statuses (Succeeded counts) own = own_status 0 (inl (omega arith))
own_statuses (Failed counts) own = own_status 1 (inl (omega arith))
own_statuses (Faulted fault line counts) own = own_status 4 (inl (omega arith))
own_statuses (StepsOut counts) own = own_status 5 (inl (omega arith))
own_statuses (BadSource fault place) own = own_status 3 (inl (omega arith))
own_statuses (TooMuchCode size) own = own_status 11 (inr (omega arith))
own_statuses (Refused refusal) own = absurd (own.not_refused refusal refl)

-- the outcome of a run with such an end, in whose place all is that was written
record Inner (P : Due → Type 0) (printed : List ℕ) (end : End) : Type 0 where
  due : Due
  outcome : P due
  out : due.out ≡ printed
  end_is : status_of due.end ≡ status_of end

-- files that tell nothing and that nothing was done to
no_files : FilesSide
no_files = record { told = λ name. Untold; fetch_faults = λ name. 0; store_faults = 0 }

-- an end as it is told has its status
told_status : (end : End) (other : Ending) → ending_in [] end ≡ other → status_of end ≡ other.status
told_status end other e = ap (λ (x : Ending). x.status) e

inner_of : (P : Due → Type 0) (i j : SourceSide) (m n : ℕ) (printed : List ℕ) (end : End) → IsOwn end
    → Runs P i j (sink_side (Some []) m) (sink_side (Some printed) n) end → Inner P printed end
inner_of P i j m n printed end own run = by (run no_files [])
  where
    statuses : IsOwnStatus (status_of end)
    statuses = own_statuses end own

    by : Course program NoFile (MayCome [] P) no_files no_files i j (sink_side (Some []) m) (sink_side (Some printed) n) (ending_in [] end)
        → Inner P printed end
    by (unfetched name none e risen files input out) = absurd none
    by (unread e fetches files reads lost risen out) = absurd (statuses.0 (told_status end _ e))
    by (unwritten r shown may none e fetches files takes out) = absurd (statuses.1 (told_status end _ e))
    by (unstored r shown stored may is e fetches files risen takes out) = absurd (statuses.1 (told_status end _ e))
    by (starved e fetches files reads out) = absurd (statuses.2 (told_status end _ e))
    by (starved_within r shown may e fetches files takes out quiet) = absurd (statuses.2 (told_status end _ e))
    by (done r shown may is fetches files takes out) = record {
      due = may.0;
      outcome = may.1;
      out = sym (ap (λ (d : plan.Due). d.out) may.3) ∙ sym out.bytes_are;
      end_is = sym (ap (λ (d : plan.Due). d.end.status) may.3) ∙ ap (λ (x : Ending). x.status) is;
    }

-- what running a source on an empty input comes to
abbrev pub IsAside : (source : List ℕ) → Due → Type 0
IsAside source = SourceOutcome source (λ p. ProgramOutcome (Some []) p default_steps (Prints false))

-- a source that was run
pub sampled : (source printed : List ℕ) (i j : SourceSide) (m n : ℕ) (end : End) → IsOwn end
    → Runs (IsAside source) i j (sink_side (Some []) m) (sink_side (Some printed) n) end → IsSampled source (length printed) (status_of end)
sampled source printed i j m n end own h =
    let x = inner_of (IsAside source) i j m n printed end own h in
    record { run = x.due; outcome = x.outcome; prints = ap length x.out; ends = x.end_is }

-- the same by what stands for its parts
pub sampled_by : (source printed told left written : List ℕ) (f m : ℕ) (j : SourceSide) (n : ℕ) (end : End) (status : ℕ) → left ≡ []
    → written ≡ [] → told ≡ printed
    → status ≡ status_of end → IsOwn end
    → Runs (SourceOutcome source (λ p. ProgramOutcome (Some left) p default_steps (Prints false))) (source_side (Some left) f) j
    (sink_side (Some written) m) (sink_side (Some printed) n) end
    → IsSampled source (length told) status
sampled_by source printed told left written f m j n end status none empty all ends own h =
    let fresh : Runs (SourceOutcome source (λ p. ProgramOutcome (Some []) p default_steps (Prints false))) (source_side (Some []) f) j
    (sink_side (Some written) m) (sink_side (Some printed) n) end =
    subst (λ (l : List ℕ). Runs (SourceOutcome source (λ p. ProgramOutcome (Some l) p default_steps (Prints false)))
    (source_side (Some l) f) j (sink_side (Some written) m) (sink_side (Some printed) n) end) none h in
    let run : Runs (IsAside source) (source_side (Some []) f) j (sink_side (Some []) m) (sink_side (Some printed) n) end =
    subst (λ (w : List ℕ). Runs (IsAside source) (source_side (Some []) f) j (sink_side (Some w) m) (sink_side (Some printed) n) end) empty
    fresh in
    subst (IsSampled source (length told)) (sym ends)
    (subst (λ (t : List ℕ). IsSampled source (length t) (status_of end)) (sym all)
    (sampled source printed (source_side (Some []) f) j m n end own run))

-- what is due where this is the line of the run
abbrev pub IsSummary : (lines bytes printed status : ℕ) → Due → Type 0
IsSummary lines bytes printed status due = due ≡ due_of (Succeeded None) (sample_line lines bytes printed status)

-- a sample that was run and summed up
pub goes_summed : (lines : ℕ) (source : List ℕ) (printed status : ℕ) (a b : SinkSide) (end : End) → source ≡ sample_text lines
    → IsSampled source printed status
    → Goes (IsSummary lines (length source) printed status) a b end → Goes (SampleOutcome lines) a b end
goes_summed lines source printed status a b end same run g =
    let is : IsSampled (sample_text lines) printed status = subst (λ (s : List ℕ). IsSampled s printed status) same run in
    goes_map (IsSummary lines (length source) printed status) (SampleOutcome lines)
    (λ due e. summed printed status is (e ∙ ap (λ (s : List ℕ). due_of (Succeeded None) (sample_line lines (length s) printed status))
    same)) a b end g

-- the parts of that line
pub summary_parts : (first lines second bytes third printed fourth status end : List ℕ) → first ≡ codes "lines " → second ≡ codes " bytes "
    → third ≡ codes " printed "
    → fourth ≡ codes " status " → end ≡ codes "\n"
    → first ++ (lines ++ (second ++ (bytes ++ (third ++ (printed ++ (fourth ++ (status ++ (end ++ [])))))))) ≡ summary_line lines bytes
    printed status
summary_parts first lines second bytes third printed fourth status end f s t u e =
    ap (λ x. x ++ (lines ++ (second ++ (bytes ++ (third ++ (printed ++ (fourth ++ (status ++ (end ++ []))))))))) f
    ∙ ap (λ x. codes "lines " ++ (lines ++ (x ++ (bytes ++ (third ++ (printed ++ (fourth ++ (status ++ (end ++ []))))))))) s
    ∙ ap (λ x. codes "lines " ++ (lines ++ (codes " bytes " ++ (bytes ++ (x ++ (printed ++ (fourth ++ (status ++ (end ++ []))))))))) t
    ∙ ap (λ x. codes "lines " ++ (lines
    ++ (codes " bytes " ++ (bytes ++ (codes " printed " ++ (printed ++ (x ++ (status ++ (end ++ []))))))))) u
    ∙ ap (λ x. codes "lines " ++ (lines
    ++ (codes " bytes " ++ (bytes ++ (codes " printed " ++ (printed ++ (codes " status " ++ (status ++ (x ++ []))))))))) e
