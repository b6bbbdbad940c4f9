-- A file that is read to its program, as a part of a plan.
use Rattle.std.proofs.Common.{◌≡◌, ℕ, List, refl}
use Rattle.std.specs.Prelude.{Result, Ok, Err}
use Rattle.alma_base.specs.Limits.{source_limit}
use Rattle.alma_base.specs.declared.place.Place.{Place}
use Rattle.alma_io.specs.Sides.{SinkSide, SourceSide, FilesSide}
use Rattle.alma_io.specs.declared.files.Fetch.TheVariants as fetch
use Rattle.alma_ir.specs.Tree as tree
use Rattle.alma_ir.specs.View.{program_of}
use Rattle.alma_ir.specs.declared.program.Program.{Program}
use Rattle.alma_plan.specs.Course.{Follows, whole}
use Rattle.alma_io.specs.Outside.{FilesStay}
use Rattle.alma_plan.specs.Plan.{Ending, Plan, Judges, silent}
use Rattle.alma_plan.proofs.Courses.{course_ends, course_fetched, course_judged, course_unfetched, gains_none}
use Rattle.alma_source.specs.Verdict.{Verdict, Accepted, Rejected}
use Rattle.alma_source.specs.declared.fault.SourceFault.{SourceFault}
use Rattle.alma_source.specs.declared.fault.SourceFault.TheVariants as source_fault
use Rattle.alma_unit.specs.Unit.{IsUnit, MayComeTo}
use Rattle.alma_unit.specs.declared.unit.UnitError.{UnitError}
use Rattle.alma_unit.specs.declared.unit.UnitError.TheVariants.{Absent, Failed, TooLong, Lex, Syntax, Check, Memory}
use Rattle.alma_plan.specs.Ends.{file_end, unit_stop}
use Rattle.alma_plan.specs.Programs.{Last, Tells, sense, accept_source, read_source, refuse_source}

-- what reading the program of a file answers
abbrev pub read : Program → Result Program UnitError
read p = Ok p

abbrev pub not_read : UnitError → Result Program UnitError
not_read error = Err error

module _ (program : List ℕ) (failed : Ending) (file : List ℕ) (next : tree.Program → Plan Verdict Last) where
  -- what the source comes to goes on
  course_verdict : (verdict : Verdict) (f g h : FilesSide) (i j : SourceSide) (o q : SinkSide) (end : Ending)
      → FilesStay f g → MayComeTo (f.told file) verdict × (g.fetch_faults ≡ f.fetch_faults)
      → Follows (sense program failed) program (accept_source file next verdict) g h i j o q end
      → Follows (sense program failed) program (read_source file next) f h i j o q end
  course_verdict verdict f g h i j o q end stay is course =
      let may = is.0 in
      course_fetched (sense program failed) program file source_limit (λ source. Judges source (accept_source file next)) may.0 f g h i j o
      q end
      stay is.1 may.1 may.2
      (course_judged (sense program failed) program may.0 (accept_source file next) verdict g h i j o q end may.3 course)

  -- the file holds a program
  pub course_read_source : (p : Program) (f g h : FilesSide) (i j : SourceSide) (o q : SinkSide) (end : Ending)
      → FilesStay f g → IsUnit (f.told file) file f.fetch_faults g.fetch_faults (read p)
      → Follows (sense program failed) program (next (program_of p)) g h i j o q end
      → Follows (sense program failed) program (read_source file next) f h i j o q end
  course_read_source p f g h i j o q end stay is course = course_verdict (Accepted (program_of p)) f g h i j o q end stay is course

  -- its source is refused
  course_refused : (fault : SourceFault) (place : Place) (f g : FilesSide) (i : SourceSide) (o : SinkSide)
      → FilesStay f g → MayComeTo (f.told file) (Rejected fault place) × (g.fetch_faults ≡ f.fetch_faults)
      → Follows (sense program failed) program (read_source file next) f g i i o o (refuse_source file fault place)
  course_refused fault place f g i o stay is =
      course_verdict (Rejected fault place) f g g i i o o (refuse_source file fault place) stay is
      (course_ends (sense program failed) program (Tells (silent (refuse_source file fault place))) g i o o (refuse_source file fault place)
      (whole (silent (refuse_source file fault place)) refl refl refl (gains_none o)))

  -- the file gives no program
  pub course_unread_source : (error : UnitError) (f g : FilesSide) (i : SourceSide) (o : SinkSide)
      → FilesStay f g → IsUnit (f.told file) file f.fetch_faults g.fetch_faults (not_read error)
      → Follows (sense program failed) program (read_source file next) f g i i o o (file_end program file (unit_stop error))
  course_unread_source (Lex fault place) f g i o stay is = course_refused (source_fault.Lex fault) place f g i o stay is
  course_unread_source (Syntax fault place) f g i o stay is = course_refused (source_fault.Syntax fault) place f g i o stay is
  course_unread_source (Check fault place) f g i o stay is = course_refused (source_fault.Check fault) place f g i o stay is
  course_unread_source Absent f g i o stay is =
      course_unfetched (sense program failed) program file source_limit (λ source. Judges source (accept_source file next)) fetch.Absent f g
      i o
      stay is
  course_unread_source Failed f g i o stay is =
      course_unfetched (sense program failed) program file source_limit (λ source. Judges source (accept_source file next)) fetch.Failed f g
      i o
      stay is
  course_unread_source TooLong f g i o stay is =
      course_unfetched (sense program failed) program file source_limit (λ source. Judges source (accept_source file next)) fetch.TooLong f
      g i o
      stay is
  course_unread_source Memory f g i o stay is =
      course_unfetched (sense program failed) program file source_limit (λ source. Judges source (accept_source file next)) fetch.Memory f g
      i o
      stay is
