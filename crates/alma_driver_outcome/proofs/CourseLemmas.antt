-- How parts of a call go by what they do to each side, and parts inside others.
use Rattle.std.proofs.Common.{◌≡◌, ℕ, List, ap, sym, subst, refl, inl}
use Rattle.std.specs.Prelude.{None}
use Rattle.alma_io.specs.Fronts.{AppendsFront}
use Rattle.alma_io.specs.Sides.{SinkSide, SourceSide, FilesSide}
use Rattle.alma_io.specs.Outside.{FilesStay, Become, Gains, FailsWithin}
use Rattle.alma_plan.specs.Course as plan_course
use Rattle.alma_plan.specs.Course.{Course, Takes, ReadsOnly, cut_short, hungry, hungry_within, whole, unwritten, starved}
use Rattle.alma_plan.specs.Course.{starved_within, done}
use Rattle.alma_plan.specs.Plan as plan
use Rattle.alma_plan.specs.Plan.{Reading, Kept}
use Rattle.alma_plan.proofs.Courses.{course_map, course_starved, files_same, gains_none}
use Rattle.alma_driver_outcome.specs.Ends.{ending_in, program, end_of_stop}
use Rattle.alma_driver_outcome.specs.Outcome.{Due, silent}
use Rattle.alma_driver_outcome.specs.Parts.{Goes, MayCome, MayShow, NoFile, Runs, Serves, Works, shown_in}
use Rattle.alma_driver_outcome.specs.declared.end.End.{End}
use Rattle.alma_plan.specs.declared.stop.Stop.TheVariants as stop

-- ---- what becomes of out

-- an outcome inside another
pub goes_map : (P Q : Due → Type 0) → ((due : Due) → P due → Q due) → (a b : SinkSide) (end : End) → Goes P a b end → Goes Q a b end
goes_map P Q map a b end g = λ file. by file (g file)
  where
    by : (file : List ℕ) → plan_course.Goes program (MayShow file P) a b (ending_in file end)
        → plan_course.Goes program (MayShow file Q) a b (ending_in file end)
    by file (cut_short shown m none e out) = cut_short shown (m.0, map m.0 m.1, m.2) none e out
    by file (hungry e out) = hungry e out
    by file (hungry_within shown m e out quiet) = hungry_within shown (m.0, map m.0 m.1, m.2) e out quiet
    by file (whole shown m is none out) = whole shown (m.0, map m.0 m.1, m.2) is none out

-- all that is due was written
pub goes_whole : (P : Due → Type 0) (due : Due) (a b : SinkSide) (end : End) → P due → due.end ≡ end → due.stored ≡ None
    → Gains a b due.out
    → Goes P a b end
goes_whole P due a b end o e none out = λ file. whole (shown_in file due) (due, o, refl) (ap (ending_in file) e) none out

-- a write failed within it
pub goes_cut : (P : Due → Type 0) (due : Due) (a b : SinkSide) → P due → due.stored ≡ None → FailsWithin a b due.out
    → Goes P a b (end_of_stop stop.Write)
goes_cut P due a b o none out = λ file. cut_short (shown_in file due) (due, o, refl) none refl out

-- memory ran out within it
pub goes_within : (P : Due → Type 0) (due : Due) (a b : SinkSide) → P due → AppendsFront a.written b.written due.out → b.faults ≡ a.faults
    → Goes P a b (end_of_stop stop.Memory)
goes_within P due a b o out quiet = λ file. hungry_within (shown_in file due) (due, o, refl) refl out quiet

-- or before the first print
pub goes_starved : (P : Due → Type 0) (a : SinkSide) → Goes P a a (end_of_stop stop.Memory)
goes_starved P a = λ file. hungry refl (gains_none a)

-- an end without a print
pub goes_silent : (P : Due → Type 0) (a : SinkSide) (end : End) → P (silent end) → Goes P a a end
goes_silent P a end o = goes_whole P (silent end) a a end o refl refl (gains_none a)

-- ---- and of the other sides

-- a part inside another, behind a fetch, which leaves the files
pub serves_behind : (A B : List ℕ → Type 0) (P Q : Due → Type 0) → ((name : List ℕ) → A name → B name)
    → ((due : Due) → P due → Q due)
    → (f g h : FilesSide) (i j : SourceSide) (a b : SinkSide) (end : End) → FilesStay f g → g.fetch_faults ≡ f.fetch_faults
    → Serves A P g h i j a b end → Serves B Q f h i j a b end
serves_behind A B P Q asked map f g h i j a b end stay quiet s = λ file.
    course_map program A B (MayCome file P) (MayCome file Q) asked (λ reading shown m. (m.0, map m.0 m.1, m.2, m.3)) f g h i j a b
    (ending_in file end) stay quiet (s file)

pub runs_map : (P Q : Due → Type 0) → ((due : Due) → P due → Q due) → (i j : SourceSide) (a b : SinkSide) (end : End) → Runs P i j a b end
    → Runs Q i j a b end
runs_map P Q map i j a b end r = λ f.
    serves_behind NoFile NoFile P Q (λ name none. none) map f f f i j a b end (files_same f) refl (r f)

pub works_map : (P Q : Due → Type 0) → ((due : Due) → P due → Q due) → (f g : FilesSide) (end : End) → Works P f g end → Works Q f g end
works_map P Q map f g end w = λ input out.
    serves_behind NoFile NoFile P Q (λ name none. none) map f f g input input out out end (files_same f) refl (w input out)

-- what is written, with what becomes of the input
pub runs_by : (P : Due → Type 0) (i j : SourceSide) → ((due : Due) → P due → Takes due.reading i j)
    → ((file : List ℕ) → ReadsOnly (MayCome file P) i j)
    → (a b : SinkSide) (end : End) → Goes P a b end → Runs P i j a b end
runs_by P i j takes reads a b end g = λ f file. by f file (g file)
  where
    may : (file : List ℕ) (shown : plan.Due) (m : MayShow file P shown) → MayCome file P m.0.reading shown
    may file shown m = (m.0, m.1, refl, m.2)

    by : (f : FilesSide) (file : List ℕ) → plan_course.Goes program (MayShow file P) a b (ending_in file end)
        → Course program NoFile (MayCome file P) f f i j a b (ending_in file end)
    by f file (cut_short shown m none e out) =
        unwritten m.0.reading shown (may file shown m) none e refl (files_same f) (takes m.0 m.1) out
    by f file (hungry e out) = starved e refl (files_same f) (reads file) out
    by f file (hungry_within shown m e out quiet) =
        starved_within m.0.reading shown (may file shown m) e refl (files_same f) (takes m.0 m.1) out quiet
    by f file (whole shown m is none out) =
        done m.0.reading shown (may file shown m) is refl (subst (Become f f) (sym none) (files_same f)) (takes m.0 m.1) out

-- what is written, where the input is left
pub runs_still : (P : Due → Type 0) → ((due : Due) → P due → due.reading ≡ Kept) → (i : SourceSide) (a b : SinkSide) (end : End)
    → Goes P a b end → Runs P i i a b end
runs_still P kept i a b end g =
    runs_by P i i (λ due o. subst (λ (r : Reading). Takes r i i) (sym (kept due o)) refl) (λ file. inl refl) a b end g

-- memory was wanted before anything was done
pub runs_starved : (P : Due → Type 0) (i : SourceSide) (a : SinkSide) → Runs P i i a a (end_of_stop stop.Memory)
runs_starved P i a = λ f file. course_starved program NoFile (MayCome file P) f i a

-- an end without a print or a store
pub runs_silent : (P : Due → Type 0) (i : SourceSide) (a : SinkSide) (end : End) → P (silent end) → Runs P i i a a end
runs_silent P i a end o = λ f file.
    done Kept (shown_in file (silent end)) (silent end, o, refl, refl) refl refl (files_same f) refl (gains_none a)

-- the same of what stores
pub works_starved : (P : Due → Type 0) (f : FilesSide) → Works P f f (end_of_stop stop.Memory)
works_starved P f = λ input out. runs_starved P input out f

pub works_silent : (P : Due → Type 0) (f : FilesSide) (end : End) → P (silent end) → Works P f f end
works_silent P f end o = λ input out. runs_silent P input out end o f
