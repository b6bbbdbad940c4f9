-- Why a call with a plan answers a fault, and that none is hidden.
use Rattle.std.proofs.Common.{◌≡◌, ◌<◌, ◌∙◌, ℕ, List, [], length, refl, sym, ap, subst, inl, inr, arith}
use Rattle.std.proofs.lemmas.List.{append-nil}
use Rattle.std.specs.Prelude.{◌≢◌, ◌⊎◌, Option, None, Some}
use Rattle.std.specs.Io.KnownBytes.{Appends}
use Rattle.alma_io.specs.Files.{Told, MayHave, MayPass}
use Rattle.alma_io.specs.Fronts.{AppendsFront}
use Rattle.alma_io.specs.Sides.{SourceSide, FilesSide}
use Rattle.alma_io.specs.Outside.{FilesStay, Outside, StoredFile, OthersStay, Become, WriteFailed, WritesGrew, ReadsGrew, Gains}
use Rattle.alma_plan.specs.Plan.{Ending, Due, Plan, Sense, plain, Fetches, Judges, Reads, Ends, Reading, Kept, Finished, Passed}
use Rattle.alma_plan.specs.Plan.{MayLack, Lacks, Comes}
use Rattle.alma_plan.specs.Course.{Takes, MayRead, ReadsOnly, GainsPrefix, Course, unfetched, unread, unwritten}
use Rattle.alma_plan.specs.Course.{unstored, starved, starved_within, done, Reports, said, unsaid, Scope, scope_of, AnswersWithin, Answers}
use Rattle.alma_plan.specs.Causes.{FetchFailed, InputFailed, IsStoredName, MayEnd, unread_end}
use Rattle.alma_plan.specs.Causes.{unwritten_end, starved_end, due_end, IsWhole, CausesWithin, Causes}
use Rattle.alma_plan.proofs.OwnEnds.{HasOwnEnds, HaveOneVerdict}

-- all bytes are a prefix
whole_front : (a b : Option (List ℕ)) (bytes : List ℕ) → Appends a b bytes → AppendsFront a b bytes
whole_front a b bytes h = (bytes, [], sym (append-nil bytes), h)

-- one end has one status
of_status : (a b : Ending) → a ≡ b → a.status ≡ b.status
of_status a b e = ap (λ (x : Ending). x.status) e

-- what became of files did not fail
become_quiet : (f f' : FilesSide) (stored : Option StoredFile) → Become f f' stored → f'.store_faults ≡ f.store_faults
become_quiet f f' None s = s.1
become_quiet f f' (Some stored) s = s.2

-- nor did what became of an input
takes_quiet : (r : Reading) (i j : SourceSide) → Takes r i j → j.faults ≡ i.faults
takes_quiet Kept i j e = ap (λ (x : SourceSide). x.faults) e
takes_quiet Finished i j h = h.1
takes_quiet Passed i j h = h.1

-- where the input does not stay, something that comes reads it
takes_read : (P : Reading → Due → Type 0) (r : Reading) (due : Due) (i j : SourceSide) → P r due → Takes r i j → (j ≡ i) ⊎ MayRead P
takes_read P Kept due i j may e = inl e
takes_read P Finished due i j may h = inr (due, inl may)
takes_read P Passed due i j may h = inr (due, inr may)

-- ---- what is due

module _ {V L : Type 0} (sense : Sense V L) (program : List ℕ) (told : List ℕ → Told) (left : Option (List ℕ)) where
  -- a read fault is due only where a file is missing, and without a print or a store
  due_reads : (plan : Plan V L) → HasOwnEnds sense plan → (r : Reading) (due : Due) → Comes sense program told left plan r due
      → due.end.status ≡ 6
      → MayLack sense told plan × (due.out ≡ []) × (due.stored ≡ None)
  due_reads (Fetches name limit next) own r due (inl h) e =
      ((name, inl refl, h.0), ap (λ (d : Due). d.out) h.2, ap (λ (d : Due). d.stored) h.2)
  due_reads (Fetches name limit next) own r due (inr (inl h)) e = absurd (omega (arith, e, ap (λ (d : Due). d.end.status) h.2))
  due_reads (Fetches name limit next) own r due (inr (inr h)) e =
      let found = due_reads (next h.0) (own h.0) r due h.3 e in
      ((found.0.0, inr (h.0, h.1, h.2, found.0.1), found.0.2), found.1, found.2)
  due_reads (Judges source next) own r due h e =
      let found = due_reads (next h.0) (own h.0) r due h.2 e in ((found.0.0, (h.0, h.1, found.0.1), found.0.2), found.1, found.2)
  due_reads (Reads last) own r due (inl h) e = absurd (omega (arith, e, ap (λ (d : Due). d.end.status) h.2))
  due_reads (Reads last) own r due (inr h) e = absurd ((own h.0 due h.4).0 e)
  due_reads (Ends last) own r due h e = absurd ((own due h.1).0 e)

  -- no write fault and no want of memory is due
  due_own : (plan : Plan V L) → HasOwnEnds sense plan → (r : Reading) (due : Due) → Comes sense program told left plan r due
      → (due.end.status ≢ 7) × (due.end.status ≢ 8)
  due_own (Fetches name limit next) own r due (inl h) =
      let is : due.end.status ≡ 6 = ap (λ (d : Due). d.end.status) h.2 in
      (λ e. absurd (omega (arith, e, is)), λ e. absurd (omega (arith, e, is)))
  due_own (Fetches name limit next) own r due (inr (inl h)) =
      let is : due.end.status ≡ 10 = ap (λ (d : Due). d.end.status) h.2 in
      (λ e. absurd (omega (arith, e, is)), λ e. absurd (omega (arith, e, is)))
  due_own (Fetches name limit next) own r due (inr (inr h)) = due_own (next h.0) (own h.0) r due h.3
  due_own (Judges source next) own r due h = due_own (next h.0) (own h.0) r due h.2
  due_own (Reads last) own r due (inl h) =
      let is : due.end.status ≡ 10 = ap (λ (d : Due). d.end.status) h.2 in
      (λ e. absurd (omega (arith, e, is)), λ e. absurd (omega (arith, e, is)))
  due_own (Reads last) own r due (inr h) = ((own h.0 due h.4).1, (own h.0 due h.4).2)
  due_own (Ends last) own r due h = ((own due h.1).1, (own due h.1).2)

  -- where a plan lacks a file a read fault is due
  due_lacks : HaveOneVerdict sense → (plan : Plan V L) → Lacks sense told plan → (r : Reading) (due : Due)
      → Comes sense program told left plan r due → due.end.status ≡ 6
  due_lacks one (Fetches name limit next) l r due (inl h) = ap (λ (d : Due). d.end.status) h.2
  due_lacks one (Fetches name limit next) (inl missing) r due (inr (inl h)) = absurd (subst (λ (t : Told). MayPass t limit) missing h.0)
  due_lacks one (Fetches name limit next) (inl missing) r due (inr (inr h)) = absurd (subst (λ (t : Told). MayHave t h.0) missing h.1)
  due_lacks one (Fetches name limit next) (inr l) r due (inr (inl h)) =
      let past : limit < length l.0 = subst (λ (t : Told). MayPass t limit) l.1 h.0 in
      absurd (omega (arith, past, l.2))
  due_lacks one (Fetches name limit next) (inr l) r due (inr (inr h)) =
      let same : l.0 ≡ h.0 = subst (λ (t : Told). MayHave t h.0) l.1 h.1 in
      due_lacks one (next h.0) (subst (λ (bytes : List ℕ). Lacks sense told (next bytes)) same l.3) r due h.3
  due_lacks one (Judges source next) l r due h =
      let same = one source l.0 h.0 l.1 h.1 in due_lacks one (next h.0) (subst (λ (v : V). Lacks sense told (next v)) same l.2) r due h.2
  due_lacks one (Reads last) l r due h = absurd l
  due_lacks one (Ends last) l r due h = absurd l

-- plans that judge no source
pub plain_has_one : HaveOneVerdict plain
plain_has_one source one other is also = absurd is

-- ---- the clauses

-- No due has the status of a write fault or of want of memory, and one of a read fault comes only where a file is missing.
pub record HasOwnDues (scope : Scope) : Type 0 where
  -- a read fault is due only where a file may be missing, and without a print or a store
  pub reads : (r : Reading) (due : Due) → scope.may r due → due.end.status ≡ 6 → scope.may_lack × (due.out ≡ []) × (due.stored ≡ None)
  -- no write fault and no want of memory is due
  pub own : (r : Reading) (due : Due) → scope.may r due → (due.end.status ≢ 7) × (due.end.status ≢ 8)
  -- where a file is missing a read fault is due
  pub absence : scope.lacks → (r : Reading) (due : Due) → scope.may r due → due.end.status ≡ 6

module _ (program : List ℕ) (scope : Scope) (dues : HasOwnDues scope) (before after : Outside) (status : ℕ) where
  -- how the call may come to an end, and how it reports it
  abbrev CourseTo : Ending → Type 0
  CourseTo end = Course program scope.asks scope.may before.files after.files before.input after.input before.out after.out end

  abbrev ReportOf : Ending → Type 0
  ReportOf end = Reports end before.err after.err status

  -- at a read fault a file is missing, or a fetch or a read failed; nothing was written, and the files stay
  abbrev ReadFaultIs : Type 0
  ReadFaultIs =
      (FetchFailed scope.asks before after ⊎ (InputFailed scope.may before after ⊎ scope.may_lack))
      × Appends before.out.written after.out.written []
      × FilesStay before.files after.files

  read_fault_of : (end : Ending) → CourseTo end → ReportOf end → status ≡ 6 → ReadFaultIs
  read_fault_of end course (unsaid s f) e = absurd (omega (arith, s, e))
  read_fault_of end (unfetched name asks q risen files input out) (said s g) e = (inl (name, asks, risen.1), out.bytes_are, files)
  read_fault_of end (unread q fetches files reads lost risen out) (said s g) e = (inr (inl (risen.1, reads)), out.bytes_are, files)
  read_fault_of end (unwritten r due may none q fetches files takes out) (said s g) e = absurd (omega (arith, s, e, of_status end _ q))
  read_fault_of end (unstored r due stored may is q fetches files risen takes out) (said s g) e =
      absurd (omega (arith, s, e, of_status end _ q))
  read_fault_of end (starved q fetches files reads out) (said s g) e = absurd (omega (arith, s, e, of_status end _ q))
  read_fault_of end (starved_within r due may q fetches files takes out quiet) (said s g) e =
      absurd (omega (arith, s, e, of_status end _ q))
  read_fault_of end (done r due may is fetches files takes out) (said s g) e =
      let found = dues.reads r due may (of_status due.end end is ∙ sym s ∙ e) in (
        inr (inr found.0),
        subst (Appends before.out.written after.out.written) found.1 out.bytes_are,
        subst (Become before.files after.files) found.2 files,
      )

  write_fault_of : (end : Ending) → CourseTo end → ReportOf end → status ≡ 7 → WriteFailed before after
  write_fault_of end course (unsaid s f) e = inr (inl f.risen.1)
  write_fault_of end (unfetched name asks q risen files input out) (said s g) e = absurd (omega (arith, s, e, of_status end _ q))
  write_fault_of end (unread q fetches files reads lost risen out) (said s g) e = absurd (omega (arith, s, e, of_status end _ q))
  write_fault_of end (unwritten r due may none q fetches files takes out) (said s g) e = inl out.risen.1
  write_fault_of end (unstored r due stored may is q fetches files risen takes out) (said s g) e = inr (inr risen.1)
  write_fault_of end (starved q fetches files reads out) (said s g) e = absurd (omega (arith, s, e, of_status end _ q))
  write_fault_of end (starved_within r due may q fetches files takes out quiet) (said s g) e =
      absurd (omega (arith, s, e, of_status end _ q))
  write_fault_of end (done r due may is fetches files takes out) (said s g) e =
      absurd ((dues.own r due may).0 (of_status due.end end is ∙ sym s ∙ e))

  prefix_of : (end : Ending) → CourseTo end → GainsPrefix scope.may before.out after.out
  prefix_of end (unfetched name asks q risen files input out) = inl out.bytes_are
  prefix_of end (unread q fetches files reads lost risen out) = inl out.bytes_are
  prefix_of end (unwritten r due may none q fetches files takes out) = inr (r, due, may, out.front)
  prefix_of end (unstored r due stored may is q fetches files risen takes out) =
      inr (r, due, may, whole_front before.out.written after.out.written due.out out.bytes_are)
  prefix_of end (starved q fetches files reads out) = inl out.bytes_are
  prefix_of end (starved_within r due may q fetches files takes out quiet) = inr (r, due, may, out)
  prefix_of end (done r due may is fetches files takes out) =
      inr (r, due, may, whole_front before.out.written after.out.written due.out out.bytes_are)

  end_of : (end : Ending) → CourseTo end → MayEnd program scope.may end
  end_of end (unfetched name asks q risen files input out) = unread_end q
  end_of end (unread q fetches files reads lost risen out) = unread_end q
  end_of end (unwritten r due may none q fetches files takes out) = unwritten_end q
  end_of end (unstored r due stored may is q fetches files risen takes out) = unwritten_end q
  end_of end (starved q fetches files reads out) = starved_end q
  end_of end (starved_within r due may q fetches files takes out quiet) = starved_end q
  end_of end (done r due may is fetches files takes out) = due_end r due may is

  -- the files stay, but for one that is to be stored
  abbrev FilesAre : Type 0
  FilesAre = FilesStay before.files after.files ⊎ ((name : List ℕ) × IsStoredName scope.may name × OthersStay before.files after.files name)

  become_are : (r : Reading) (due : Due) → scope.may r due → (stored : Option StoredFile) → due.stored ≡ stored
      → Become before.files after.files stored → FilesAre
  become_are r due may None is b = inl b
  become_are r due may (Some stored) is b = inr (stored.name, (r, due, stored, may, is, refl), b.0)

  files_of : (end : Ending) → CourseTo end → FilesAre
  files_of end (unfetched name asks q risen files input out) = inl files
  files_of end (unread q fetches files reads lost risen out) = inl files
  files_of end (unwritten r due may none q fetches files takes out) = inl files
  files_of end (unstored r due stored may is q fetches files risen takes out) = inr (stored.name, (r, due, stored, may, is, refl), files)
  files_of end (starved q fetches files reads out) = inl files
  files_of end (starved_within r due may q fetches files takes out quiet) = inl files
  files_of end (done r due may is fetches files takes out) = become_are r due may due.stored refl files

  starved_files_of : (end : Ending) → CourseTo end → ReportOf end → status ≡ 8 → FilesStay before.files after.files
  starved_files_of end course (unsaid s f) e = absurd (omega (arith, s, e))
  starved_files_of end (unfetched name asks q risen files input out) (said s g) e = files
  starved_files_of end (unread q fetches files reads lost risen out) (said s g) e = files
  starved_files_of end (unwritten r due may none q fetches files takes out) (said s g) e = files
  starved_files_of end (unstored r due stored may is q fetches files risen takes out) (said s g) e =
      absurd (omega (arith, s, e, of_status end _ q))
  starved_files_of end (starved q fetches files reads out) (said s g) e = files
  starved_files_of end (starved_within r due may q fetches files takes out quiet) (said s g) e = files
  starved_files_of end (done r due may is fetches files takes out) (said s g) e =
      absurd ((dues.own r due may).1 (of_status due.end end is ∙ sym s ∙ e))

  files_stay_of : (end : Ending) → CourseTo end → ReportOf end → (status ≡ 6) ⊎ (status ≡ 8) → FilesStay before.files after.files
  files_stay_of end course report (inl e) = (read_fault_of end course report e).2
  files_stay_of end course report (inr e) = starved_files_of end course report e

  -- all that is due came
  whole_of : (end : Ending) → CourseTo end → ReportOf end → (status ≢ 6) → (status ≢ 7) → (status ≢ 8)
      → IsWhole scope.may before after status
  whole_of end course (unsaid s f) no_read no_write no_want = absurd (no_write s)
  whole_of end (unfetched name asks q risen files input out) (said s g) no_read no_write no_want = absurd (no_read (s ∙ of_status end _ q))
  whole_of end (unread q fetches files reads lost risen out) (said s g) no_read no_write no_want = absurd (no_read (s ∙ of_status end _ q))
  whole_of end (unwritten r due may none q fetches files takes out) (said s g) no_read no_write no_want =
      absurd (no_write (s ∙ of_status end _ q))
  whole_of end (unstored r due stored may is q fetches files risen takes out) (said s g) no_read no_write no_want =
      absurd (no_write (s ∙ of_status end _ q))
  whole_of end (starved q fetches files reads out) (said s g) no_read no_write no_want = absurd (no_want (s ∙ of_status end _ q))
  whole_of end (starved_within r due may q fetches files takes out quiet) (said s g) no_read no_write no_want =
      absurd (no_want (s ∙ of_status end _ q))
  whole_of end (done r due may is fetches files takes out) (said s g) no_read no_write no_want = (
    r,
    due,
    may,
    s ∙ sym (of_status due.end end is),
    out,
    subst (λ (x : Ending). Gains before.err after.err x.text) (sym is) g,
    files,
    takes,
  )

  writes_shown_of : (end : Ending) → CourseTo end → ReportOf end → WritesGrew before after → status ≡ 7
  writes_shown_of end course (unsaid s f) w = s
  writes_shown_of end (unwritten r due may none q fetches files takes out) (said s g) w = s ∙ of_status end _ q
  writes_shown_of end (unstored r due stored may is q fetches files risen takes out) (said s g) w = s ∙ of_status end _ q
  writes_shown_of end course (said s g) (inr (inl h)) = absurd (omega (arith, h, g.quiet))
  writes_shown_of end (unfetched name asks q risen files input out) (said s g) (inl h) = absurd (omega (arith, h, out.quiet))
  writes_shown_of end (unfetched name asks q risen files input out) (said s g) (inr (inr h)) = absurd (omega (arith, h, files.1))
  writes_shown_of end (unread q fetches files reads lost risen out) (said s g) (inl h) = absurd (omega (arith, h, out.quiet))
  writes_shown_of end (unread q fetches files reads lost risen out) (said s g) (inr (inr h)) = absurd (omega (arith, h, files.1))
  writes_shown_of end (starved q fetches files reads out) (said s g) (inl h) = absurd (omega (arith, h, out.quiet))
  writes_shown_of end (starved q fetches files reads out) (said s g) (inr (inr h)) = absurd (omega (arith, h, files.1))
  writes_shown_of end (starved_within r due may q fetches files takes out quiet) (said s g) (inl h) = absurd (omega (arith, h, quiet))
  writes_shown_of end (starved_within r due may q fetches files takes out quiet) (said s g) (inr (inr h)) =
      absurd (omega (arith, h, files.1))
  writes_shown_of end (done r due may is fetches files takes out) (said s g) (inl h) = absurd (omega (arith, h, out.quiet))
  writes_shown_of end (done r due may is fetches files takes out) (said s g) (inr (inr h)) =
      absurd (omega (arith, h, become_quiet before.files after.files due.stored files))

  -- where a failed fetch or read is not shown by the end, none failed
  quiet_reads : after.files.fetch_faults ≡ before.files.fetch_faults → after.input.faults ≡ before.input.faults → ReadsGrew before after → ⊥
  quiet_reads fetches input (inl h) = omega (arith, h.1, ap (λ (c : List ℕ → ℕ). c h.0) fetches)
  quiet_reads fetches input (inr h) = omega (arith, h, input)

  starved_quiet : ReadsOnly scope.may before.input after.input → after.input.faults ≡ before.input.faults
  starved_quiet (inl e) = ap (λ (x : SourceSide). x.faults) e
  starved_quiet (inr (reads, begun)) = begun.1

  reads_shown_of : (end : Ending) → CourseTo end → ReportOf end → ReadsGrew before after → WriteFailed before after ⊎ (status ≡ 6)
  reads_shown_of end course (unsaid s f) grew = inl (inr (inl f.risen.1))
  reads_shown_of end (unfetched name asks q risen files input out) (said s g) grew = inr (s ∙ of_status end _ q)
  reads_shown_of end (unread q fetches files reads lost risen out) (said s g) grew = inr (s ∙ of_status end _ q)
  reads_shown_of end (unwritten r due may none q fetches files takes out) (said s g) grew = inl (inl out.risen.1)
  reads_shown_of end (unstored r due stored may is q fetches files risen takes out) (said s g) grew = inl (inr (inr risen.1))
  reads_shown_of end (starved q fetches files reads out) (said s g) grew = absurd (quiet_reads fetches (starved_quiet reads) grew)
  reads_shown_of end (starved_within r due may q fetches files takes out quiet) (said s g) grew =
      absurd (quiet_reads fetches (takes_quiet r before.input after.input takes) grew)
  reads_shown_of end (done r due may is fetches files takes out) (said s g) grew =
      absurd (quiet_reads fetches (takes_quiet r before.input after.input takes) grew)

  starved_input : ReadsOnly scope.may before.input after.input → (after.input ≡ before.input) ⊎ MayRead scope.may
  starved_input (inl e) = inl e
  starved_input (inr h) = inr h.0

  input_of : (end : Ending) → CourseTo end → (after.input ≡ before.input) ⊎ MayRead scope.may
  input_of end (unfetched name asks q risen files input out) = inl input
  input_of end (unread q fetches files reads lost risen out) = inr reads
  input_of end (unwritten r due may none q fetches files takes out) = takes_read scope.may r due before.input after.input may takes
  input_of end (unstored r due stored may is q fetches files risen takes out) =
      takes_read scope.may r due before.input after.input may takes
  input_of end (starved q fetches files reads out) = starved_input reads
  input_of end (starved_within r due may q fetches files takes out quiet) =
      takes_read scope.may r due before.input after.input may takes
  input_of end (done r due may is fetches files takes out) = takes_read scope.may r due before.input after.input may takes

  absence_shown_of : (end : Ending) → CourseTo end → ReportOf end → scope.lacks → (status ≡ 6)
      ⊎ ((status ≡ 7) ⊎ (status ≡ 8))
  absence_shown_of end course (unsaid s f) l = inr (inl s)
  absence_shown_of end (unfetched name asks q risen files input out) (said s g) l = inl (s ∙ of_status end _ q)
  absence_shown_of end (unread q fetches files reads lost risen out) (said s g) l = inl (s ∙ of_status end _ q)
  absence_shown_of end (unwritten r due may none q fetches files takes out) (said s g) l = inr (inl (s ∙ of_status end _ q))
  absence_shown_of end (unstored r due stored may is q fetches files risen takes out) (said s g) l = inr (inl (s ∙ of_status end _ q))
  absence_shown_of end (starved q fetches files reads out) (said s g) l = inr (inr (s ∙ of_status end _ q))
  absence_shown_of end (starved_within r due may q fetches files takes out quiet) (said s g) l = inr (inr (s ∙ of_status end _ q))
  absence_shown_of end (done r due may is fetches files takes out) (said s g) l =
      inl (s ∙ sym (of_status due.end end is) ∙ dues.absence l r due may)

  -- what a call's status says of it
  pub causes_within : AnswersWithin program scope before after status → CausesWithin program scope before after status
  causes_within x = record {
    read_fault_is = λ e. (read_fault_of x.end x.course x.reported e).0;
    nothing = λ e. (read_fault_of x.end x.course x.reported e).1;
    write_fault_is = write_fault_of x.end x.course x.reported;
    prefix = prefix_of x.end x.course;
    reported = (x.end, end_of x.end x.course, x.reported);
    files = files_of x.end x.course;
    files_stay = files_stay_of x.end x.course x.reported;
    whole = whole_of x.end x.course x.reported;
    writes_shown = writes_shown_of x.end x.course x.reported;
    reads_shown = reads_shown_of x.end x.course x.reported;
    input = input_of x.end x.course;
    absence_shown = absence_shown_of x.end x.course x.reported;
  }

-- the same of a plan that has ends of its own
pub causes_of : {V L : Type 0} (sense : Sense V L) (program : List ℕ) (plan : Plan V L) → HaveOneVerdict sense → HasOwnEnds sense plan
    → (before after : Outside) (status : ℕ) → Answers sense program plan before after status → Causes sense program plan before after status
causes_of sense program plan one own before after status =
    let told = before.files.told in
    let left = before.input.left in
    causes_within program (scope_of sense program plan before) (record {
      reads = due_reads sense program told left plan own;
      own = due_own sense program told left plan own;
      absence = λ l. due_lacks sense program told left one plan l;
    }) before after status
