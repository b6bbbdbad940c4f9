-- How a call goes by its plan: one lemma for each thing that is read, and for how it ends.
use Rattle.std.proofs.Common.{◌≡◌, ◌≤◌, ◌<◌, ◌+◌, ◌∙◌, ℕ, List, [], ◌++◌, length, refl, sym, ap, subst, inl, inr, arith}
use Rattle.std.proofs.lemmas.List.{append-nil}
use Rattle.std.proofs.lemmas.Bool.{cases_lt}
use Rattle.std.specs.Prelude.{◌⊎◌, Option, None, Some, Result, Err}
use Rattle.std.specs.Global.{Vec}
use Rattle.std.specs.Io.KnownBytes.{Consumes, IsAtEnd}
use Rattle.alma_base.specs.Limits.{input_limit}
use Rattle.alma_io.specs.Files.{Told, MayHave, MayPass, NowHas, IsFetched}
use Rattle.alma_io.specs.Sides.{SinkSide, SourceSide, FilesSide}
use Rattle.alma_io.specs.Whole.{LosesAtMost, LosesBytes, MayHaveMore, HasReadCause}
use Rattle.alma_io.specs.declared.files.Fetch.{Fetch}
use Rattle.alma_io.specs.declared.files.Fetch.TheVariants as fetch
use Rattle.alma_io.specs.declared.whole.ReadAll.{ReadAll}
use Rattle.alma_io.specs.declared.whole.ReadAll.TheVariants as reading
use Rattle.alma_io.proofs.Known.{appends_none}
use Rattle.alma_io.specs.Outside.{HasRisen, FilesStay, StoredFile, OthersStay, Become, MayBeLeft, Gains}
use Rattle.alma_plan.specs.Plan.{Ending, Due, Plan, Sense, Fetches, Judges, Reads, Ends, Reading, Kept, Finished, Passed, Asks}
use Rattle.alma_plan.specs.Plan.{Comes, silent, read_fault, write_fault, no_memory, too_long}
use Rattle.alma_plan.specs.Refusals.{stop_end, fetch_stop, read_stop}
use Rattle.alma_plan.specs.Course.{Takes, IsBegun, MayRead, ReadsOnly, Goes, cut_short, hungry}
use Rattle.alma_plan.specs.Course.{hungry_within, whole, Course, Follows, unfetched, unread, unwritten, unstored, starved}
use Rattle.alma_plan.specs.Course.{starved_within, done}

-- a sink that nothing was done to gained nothing
pub gains_none : (o : SinkSide) → Gains o o []
gains_none o = record { bytes_are = appends_none o.written; quiet = refl }

-- files that nothing was done to stay
pub files_same : (f : FilesSide) → FilesStay f f
files_same f = (λ name. refl, refl)

-- memory ran out before anything was done
pub course_starved : (program : List ℕ) (asks : List ℕ → Type 0) (may : Reading → Due → Type 0) (f : FilesSide) (i : SourceSide)
    (o : SinkSide)
    → Course program asks may f f i i o o (no_memory program)
course_starved program asks may f i o = starved refl refl (files_same f) (inl refl) (gains_none o)

-- what may be asked for, and what may come, by what the files told before
asks_told : {V L : Type 0} (sense : Sense V L) (told told' : List ℕ → Told) → ((name : List ℕ) → told' name ≡ told name)
    → (plan : Plan V L) (asked : List ℕ)
    → Asks sense told' plan asked → Asks sense told plan asked
asks_told sense told told' same (Fetches name limit next) asked (inl e) = inl e
asks_told sense told told' same (Fetches name limit next) asked (inr h) =
    inr (h.0, subst (λ (t : Told). MayHave t h.0) (same name) h.1, h.2, asks_told sense told told' same (next h.0) asked h.3)
asks_told sense told told' same (Judges source next) asked h = (h.0, h.1, asks_told sense told told' same (next h.0) asked h.2)
asks_told sense told told' same (Reads last) asked h = h
asks_told sense told told' same (Ends last) asked h = h

comes_told : {V L : Type 0} (sense : Sense V L) (program : List ℕ) (told told' : List ℕ → Told) (left : Option (List ℕ))
    → ((name : List ℕ) → told' name ≡ told name) → (plan : Plan V L) (r : Reading) (due : Due)
    → Comes sense program told' left plan r due → Comes sense program told left plan r due
comes_told sense program told told' left same (Fetches name limit next) r due (inl h) = inl (sym (same name) ∙ h.0, h.1, h.2)
comes_told sense program told told' left same (Fetches name limit next) r due (inr (inl h)) =
    inr (inl (subst (λ (t : Told). MayPass t limit) (same name) h.0, h.1, h.2))
comes_told sense program told told' left same (Fetches name limit next) r due (inr (inr h)) =
    inr (inr (
      h.0,
      subst (λ (t : Told). MayHave t h.0) (same name) h.1,
      h.2,
      comes_told sense program told told' left same (next h.0) r due h.3,
    ))
comes_told sense program told told' left same (Judges source next) r due h =
    (h.0, h.1, comes_told sense program told told' left same (next h.0) r due h.2)
comes_told sense program told told' left same (Reads last) r due h = h
comes_told sense program told told' left same (Ends last) r due h = h

-- files that stay twice stay
stay_twice : (f g h : FilesSide) → FilesStay f g → FilesStay g h → FilesStay f h
stay_twice f g h a b = (λ name. b.0 name ∙ a.0 name, b.1 ∙ a.1)

-- files that stay and then become something have become it
become_behind : (f g h : FilesSide) (stored : Option StoredFile) → FilesStay f g → Become g h stored → Become f h stored
become_behind f g h None a b = stay_twice f g h a b
become_behind f g h (Some stored) a b = (
  λ other apart. b.0 other apart ∙ a.0 other,
  subst (λ (t : Told). NowHas t (h.told stored.name) stored.bytes) (a.0 stored.name) b.1,
  b.2 ∙ a.1,
)

-- a count that stays and then rises has risen
risen_behind : (m n k : ℕ) → n ≡ m → HasRisen n k → HasRisen m k
risen_behind m n k e h = subst (λ (x : ℕ). HasRisen x k) e h

-- something that may come reads the input, also where more may come
read_map : (P Q : Reading → Due → Type 0) → ((r : Reading) (due : Due) → P r due → Q r due) → MayRead P → MayRead Q
read_map P Q map h = (h.0, by h.1)
  where
    by : P Finished h.0 ⊎ P Passed h.0 → Q Finished h.0 ⊎ Q Passed h.0
    by (inl p) = inl (map Finished h.0 p)
    by (inr p) = inr (map Passed h.0 p)

module _ (program : List ℕ) (A B : List ℕ → Type 0) (P Q : Reading → Due → Type 0) where
  -- a course behind a fetch that gave bytes, towards what may be asked for and come of both
  pub course_map : ((name : List ℕ) → A name → B name) → ((r : Reading) (due : Due) → P r due → Q r due)
      → (f g h : FilesSide) (i j : SourceSide) (o p : SinkSide) (end : Ending) → FilesStay f g → g.fetch_faults ≡ f.fetch_faults
      → Course program A P g h i j o p end → Course program B Q f h i j o p end
  course_map asked map f g h i j o p end stay quiet (unfetched name asks e risen files input out) =
      unfetched name (asked name asks) e
      (risen_behind (f.fetch_faults name) (g.fetch_faults name) (h.fetch_faults name) (ap (λ (c : List ℕ → ℕ). c name) quiet) risen)
      (stay_twice f g h stay files) input out
  course_map asked map f g h i j o p end stay quiet (unread e fetches files reads lost risen out) =
      unread e (fetches ∙ quiet) (stay_twice f g h stay files) (read_map P Q map reads) lost risen out
  course_map asked map f g h i j o p end stay quiet (unwritten r due may none e fetches files takes out) =
      unwritten r due (map r due may) none e (fetches ∙ quiet) (stay_twice f g h stay files) takes out
  course_map asked map f g h i j o p end stay quiet (unstored r due stored may is e fetches files risen takes out) =
      unstored r due stored (map r due may) is e (fetches ∙ quiet) (λ other apart. files other apart ∙ stay.0 other)
      (risen_behind f.store_faults g.store_faults h.store_faults stay.1 risen) takes out
  course_map asked map f g h i j o p end stay quiet (starved e fetches files reads out) =
      starved e (fetches ∙ quiet) (stay_twice f g h stay files) (by_reads reads) out
    where
      by_reads : ReadsOnly P i j → ReadsOnly Q i j
      by_reads (inl same) = inl same
      by_reads (inr r) = inr (read_map P Q map r.0, r.1)
  course_map asked map f g h i j o p end stay quiet (starved_within r due may e fetches files takes out faults) =
      starved_within r due (map r due may) e (fetches ∙ quiet) (stay_twice f g h stay files) takes out faults
  course_map asked map f g h i j o p end stay quiet (done r due may is fetches files takes out) =
      done r due (map r due may) is (fetches ∙ quiet) (become_behind f g h due.stored stay files) takes out

-- what is read to the end is what was left
pub was_left : (old new : Option (List ℕ)) (bytes : List ℕ) → Consumes old new bytes → IsAtEnd new → MayBeLeft old bytes
was_left None new bytes c e = tt
was_left (Some xs) None bytes c e = absurd c
was_left (Some xs) (Some ys) bytes c e = c ∙ ap (λ z. bytes ++ z) e ∙ append-nil bytes

module _ {V L : Type 0} (sense : Sense V L) (program : List ℕ) where
  -- a file was fetched
  pub course_fetched : (name : List ℕ) (limit : ℕ) (next : List ℕ → Plan V L) (bytes : List ℕ) (f g h : FilesSide) (i j : SourceSide)
      (o p : SinkSide) (end : Ending)
      → FilesStay f g → g.fetch_faults ≡ f.fetch_faults → MayHave (f.told name) bytes → length bytes ≤ limit
      → Follows sense program (next bytes) g h i j o p end → Follows sense program (Fetches name limit next) f h i j o p end
  course_fetched name limit next bytes f g h i j o p end stay quiet has short course =
      course_map program (Asks sense g.told (next bytes)) (Asks sense f.told (Fetches name limit next))
      (Comes sense program g.told i.left (next bytes))
      (Comes sense program f.told i.left (Fetches name limit next))
      (λ asked asks. inr (bytes, has, short, asks_told sense f.told g.told stay.0 (next bytes) asked asks))
      (λ r due comes. inr (inr (bytes, has, short, comes_told sense program f.told g.told i.left stay.0 (next bytes) r due comes)))
      f g h i j o p end stay quiet course

  -- a file was not fetched
  pub course_unfetched : (name : List ℕ) (limit : ℕ) (next : List ℕ → Plan V L) (fault : Fetch) (f g : FilesSide) (i : SourceSide)
      (o : SinkSide)
      → FilesStay f g → IsFetched (f.told name) name limit f.fetch_faults g.fetch_faults (Err fault)
      → Follows sense program (Fetches name limit next) f g i i o o (stop_end program (fetch_stop fault))
  course_unfetched name limit next fetch.Absent f g i o stay is =
      done Kept (silent (read_fault program)) (inl (is.0, refl, refl)) refl is.1 stay refl (gains_none o)
  course_unfetched name limit next fetch.Failed f g i o stay is = unfetched name (inl refl) refl (is.0, is.1) stay refl (gains_none o)
  course_unfetched name limit next fetch.TooLong f g i o stay is =
      done Kept (silent (too_long program)) (inr (inl (is.0, refl, refl))) refl is.1 stay refl (gains_none o)
  course_unfetched name limit next fetch.Memory f g i o stay is =
      starved refl is stay (inl refl) (gains_none o)

  -- a source was judged
  pub course_judged : (source : List ℕ) (next : V → Plan V L) (verdict : V) (f h : FilesSide) (i j : SourceSide) (o p : SinkSide)
      (end : Ending)
      → sense.judged source verdict → Follows sense program (next verdict) f h i j o p end
      → Follows sense program (Judges source next) f h i j o p end
  course_judged source next verdict f h i j o p end is course =
      course_map program (Asks sense f.told (next verdict)) (Asks sense f.told (Judges source next))
      (Comes sense program f.told i.left (next verdict)) (Comes sense program f.told i.left (Judges source next))
      (λ asked asks. (verdict, is, asks)) (λ r due comes. (verdict, is, comes)) f f h i j o p end (files_same f) refl course

  -- a plan that reads the input has something that comes and does
  reading_due : (told : List ℕ → Told) (left : Option (List ℕ)) (last : List ℕ → L)
      → ((bytes : List ℕ) → (due : Due) × sense.means (last bytes) due)
      → MayRead (Comes sense program told left (Reads last))
  reading_due told None last some = let found = some [] in (found.0, inl (inr ([], tt, omega arith, refl, found.1)))
  reading_due told (Some bytes) last some = by (cases_lt input_limit (length bytes))
    where
      by : (input_limit < length bytes) ⊎ (length bytes ≤ input_limit) → MayRead (Comes sense program told (Some bytes) (Reads last))
      by (inl past) = (silent (too_long program), inr (inl (past, refl, refl)))
      by (inr short) = let found = some bytes in (found.0, inl (inr (bytes, refl, short, refl, found.1)))

  -- nothing more is read
  pub course_ends : (last : L) (f : FilesSide) (i : SourceSide) (o p : SinkSide) (end : Ending) → Goes program (sense.means last) o p end
      → Follows sense program (Ends last) f f i i o p end
  course_ends last f i o p end (cut_short due may none e out) = unwritten Kept due (refl, may) none e refl (files_same f) refl out
  course_ends last f i o p end (hungry e out) = starved e refl (files_same f) (inl refl) out
  course_ends last f i o p end (hungry_within due may e out faults) =
      starved_within Kept due (refl, may) e refl (files_same f) refl out faults
  course_ends last f i o p end (whole due may is none out) =
      done Kept due (refl, may) is refl (subst (Become f f) (sym none) (files_same f)) refl out

  -- the whole input was read, and then what is due follows
  pub course_read : (last : List ℕ → L) → ((bytes : List ℕ) → (due : Due) × sense.means (last bytes) due)
      → (bytes : List ℕ) (f : FilesSide) (i j : SourceSide) (o p : SinkSide) (end : Ending)
      → Consumes i.left j.left bytes → IsAtEnd j.left → length bytes ≤ input_limit → j.faults ≡ i.faults
      → Goes program (sense.means (last bytes)) o p end → Follows sense program (Reads last) f f i j o p end
  course_read last some bytes f i j o p end c at_end short same goes = by goes where
    takes : Takes Finished i j
    takes = ((bytes, c, at_end, short), same)

    begun : IsBegun i j
    begun = ((bytes, c, omega (arith, short)), same)

    comes : (due : Due) → sense.means (last bytes) due → Comes sense program f.told i.left (Reads last) Finished due
    comes due m = inr (bytes, was_left i.left j.left bytes c at_end, short, refl, m)

    by : Goes program (sense.means (last bytes)) o p end → Follows sense program (Reads last) f f i j o p end
    by (cut_short due may none e out) = unwritten Finished due (comes due may) none e refl (files_same f) takes out
    by (hungry e out) = starved e refl (files_same f) (inr (reading_due f.told i.left last some, begun)) out
    by (hungry_within due may e out faults) =
        starved_within Finished due (comes due may) e refl (files_same f) takes out faults
    by (whole due may is none out) = done Finished due (comes due may) is refl (subst (Become f f) (sym none) (files_same f)) takes out

  abbrev not_read : ReadAll → Result (Vec ℕ) ReadAll
  not_read error = Err error

  -- the input was not read
  pub course_unread : (last : List ℕ → L) → ((bytes : List ℕ) → (due : Due) × sense.means (last bytes) due)
      → (error : ReadAll) (f : FilesSide) (i j : SourceSide) (o : SinkSide)
      → LosesAtMost i.left j.left (input_limit + 1) → HasReadCause i.faults j.faults (Err error)
      → (not_read error ≡ not_read reading.TooLong → MayHaveMore i.left input_limit)
      → (not_read error ≡ not_read reading.TooLong → LosesBytes i.left j.left (input_limit + 1))
      → Follows sense program (Reads last) f f i j o o (stop_end program (read_stop error))
  course_unread last some reading.Fault f i j o loses cause more past =
      unread refl refl (files_same f) (reading_due f.told i.left last some) loses (cause.0, cause.1) (gains_none o)
  course_unread last some reading.TooLong f i j o loses cause more past =
      done Passed (silent (too_long program)) (inl (more refl, refl, refl)) refl refl (files_same f) (past refl, cause) (gains_none o)
  course_unread last some reading.Memory f i j o loses cause more past =
      starved refl refl (files_same f) (inr (reading_due f.told i.left last some, (loses, cause))) (gains_none o)

  -- bytes were stored
  pub course_stored : (last : L) (due : Due) (stored : StoredFile) (f g : FilesSide) (i : SourceSide) (o : SinkSide) → sense.means last due
      → due.stored ≡ Some stored → due.out ≡ [] → g.fetch_faults ≡ f.fetch_faults → Become f g (Some stored)
      → Follows sense program (Ends last) f g i i o o due.end
  course_stored last due stored f g i o means is none quiet become =
      done Kept due (refl, means) refl quiet (subst (Become f g) (sym is) become) refl (subst (Gains o o) (sym none) (gains_none o))

  -- a store failed
  pub course_unstored : (last : L) (due : Due) (stored : StoredFile) (f g : FilesSide) (i : SourceSide) (o : SinkSide)
      → sense.means last due
      → due.stored ≡ Some stored → due.out ≡ [] → g.fetch_faults ≡ f.fetch_faults → OthersStay f g stored.name
      → HasRisen f.store_faults g.store_faults
      → Follows sense program (Ends last) f g i i o o (write_fault program)
  course_unstored last due stored f g i o means is none quiet others risen =
      unstored Kept due stored (refl, means) is refl quiet others risen refl (subst (Gains o o) (sym none) (gains_none o))

  -- memory ran out at a store: every file is as before
  pub course_starved_store : (last : L) (f g : FilesSide) (i : SourceSide) (o : SinkSide) → g.fetch_faults ≡ f.fetch_faults → FilesStay f g
      → Follows sense program (Ends last) f g i i o o (no_memory program)
  course_starved_store last f g i o quiet stay = starved refl quiet stay (inl refl) (gains_none o)
