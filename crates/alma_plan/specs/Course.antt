-- How a call may come to an end: to what is due, or into a fault or want of memory.
use Rattle.std.specs.Prelude.{◌≡◌, ◌⊎◌, ◌+◌, ◌≤◌, List, ℕ, [], length, None, Some}
use Rattle.std.specs.Io.KnownBytes.{Appends, Consumes, IsAtEnd}
use Rattle.alma_base.specs.Limits.{input_limit}
use Rattle.alma_driver_words.specs.Exit as exit
use Rattle.alma_io.specs.Fronts.{AppendsFront}
use Rattle.alma_io.specs.Sides.{SinkSide, SourceSide, FilesSide}
use Rattle.alma_io.specs.Whole.{LosesAtMost, LosesBytes}
use Rattle.alma_io.specs.Outside.{Outside, HasRisen, FilesStay, StoredFile, OthersStay, Become, Gains, FailsWithin}
use Rattle.alma_plan.specs.Plan.{Ending, Due, Plan, Sense, Reading, Kept, Finished, Passed, Asks, Comes, MayLack, Lacks, read_fault}
use Rattle.alma_plan.specs.Plan.{write_fault, no_memory}

-- ---- the input

-- all that was left was read, up to the end, and it was no longer than an input may be
abbrev pub IsReadWhole : SourceSide → SourceSide → Type 0
IsReadWhole old new = (bytes : List ℕ) × Consumes old.left new.left bytes × IsAtEnd new.left × (length bytes ≤ input_limit)

-- it did not fail, and it stays, is read whole, or has lost one byte more than an input may have
abbrev pub Takes : Reading → SourceSide → SourceSide → Type 0
Takes Kept old new = new ≡ old
Takes Finished old new = IsReadWhole old new × (new.faults ≡ old.faults)
Takes Passed old new = LosesBytes old.left new.left (input_limit + 1) × (new.faults ≡ old.faults)

-- it did not fail, and no more of it is lost than one byte more than an input may have
abbrev pub IsBegun : SourceSide → SourceSide → Type 0
IsBegun old new = LosesAtMost old.left new.left (input_limit + 1) × (new.faults ≡ old.faults)

-- ---- the call

module _ (may : Reading → Due → Type 0) where
  -- something that may come reads the input
  abbrev pub MayRead : Type 0
  MayRead = (due : Due) × (may Finished due ⊎ may Passed due)

  -- the input stays, or something that may come reads it
  abbrev pub ReadsOnly : SourceSide → SourceSide → Type 0
  ReadsOnly old new = (new ≡ old) ⊎ (MayRead × IsBegun old new)

  -- the sink gained a prefix of what may come; none is known where memory ran out before there was one
  abbrev pub GainsPrefix : SinkSide → SinkSide → Type 0
  GainsPrefix old new =
      Appends old.written new.written [] ⊎ ((reading : Reading) × (due : Due) × may reading due
      × AppendsFront old.written new.written due.out)

-- How the last part of a call, which writes to out alone, may come to this end, where this may come.
pub data Goes (program : List ℕ) (may : Due → Type 0) (out out' : SinkSide) (end : Ending) : Type 0 where
  -- a write failed within the bytes of what may come, where nothing is to be stored
  cut_short : (due : Due) → may due → due.stored ≡ None → end ≡ write_fault program → FailsWithin out out' due.out
      → Goes program may out out' end
  -- memory ran out before there was anything, or within the bytes of what may come
  hungry : end ≡ no_memory program → Gains out out' [] → Goes program may out out' end
  hungry_within : (due : Due) → may due → end ≡ no_memory program → AppendsFront out.written out'.written due.out → out'.faults ≡ out.faults
      → Goes program may out out' end
  -- what may come came, whole
  whole : (due : Due) → may due → due.end ≡ end → due.stored ≡ None → Gains out out' due.out → Goes program may out out' end

-- How a call in the name of a program may come to this end, where these files may be asked for, and this may come.
pub data Course (program : List ℕ) (asks : List ℕ → Type 0) (may : Reading → Due → Type 0) (files files' : FilesSide)
    (input input' : SourceSide)
    (out out' : SinkSide) (end : Ending) : Type 0 where
  -- the fetch of a file that may be asked for failed, and nothing was written
  unfetched : (name : List ℕ) → asks name → end ≡ read_fault program → HasRisen (files.fetch_faults name) (files'.fetch_faults name)
      → FilesStay files files'
      → input' ≡ input → Gains out out' [] → Course program asks may files files' input input' out out' end
  -- the input failed, and nothing was written
  unread : end ≡ read_fault program → files'.fetch_faults ≡ files.fetch_faults → FilesStay files files' → MayRead may
      → LosesAtMost input.left input'.left (input_limit + 1) → HasRisen input.faults input'.faults → Gains out out' []
      → Course program asks may files files' input input' out out' end
  -- a write failed within the bytes of what may come, where nothing is to be stored
  unwritten : (reading : Reading) (due : Due) → may reading due → due.stored ≡ None → end ≡ write_fault program
      → files'.fetch_faults ≡ files.fetch_faults → FilesStay files files'
      → Takes reading input input' → FailsWithin out out' due.out → Course program asks may files files' input input' out out' end
  -- a store failed, when out had all that is due
  unstored : (reading : Reading) (due : Due) (stored : StoredFile) → may reading due → due.stored ≡ Some stored → end ≡ write_fault program
      → files'.fetch_faults ≡ files.fetch_faults → OthersStay files files' stored.name → HasRisen files.store_faults files'.store_faults
      → Takes reading input input' → Gains out out' due.out → Course program asks may files files' input input' out out' end
  -- memory ran out before anything was written
  starved : end ≡ no_memory program → files'.fetch_faults ≡ files.fetch_faults → FilesStay files files' → ReadsOnly may input input'
      → Gains out out' [] → Course program asks may files files' input input' out out' end
  -- memory ran out within the bytes of what may come
  starved_within : (reading : Reading) (due : Due) → may reading due → end ≡ no_memory program
      → files'.fetch_faults ≡ files.fetch_faults → FilesStay files files'
      → Takes reading input input' → AppendsFront out.written out'.written due.out → out'.faults ≡ out.faults
      → Course program asks may files files' input input' out out' end
  -- what may come came, whole
  done : (reading : Reading) (due : Due) → may reading due → due.end ≡ end → files'.fetch_faults ≡ files.fetch_faults
      → Become files files' due.stored
      → Takes reading input input' → Gains out out' due.out → Course program asks may files files' input input' out out' end

-- the same, where a plan says which files are asked for, and what may come
abbrev pub Follows : {V L : Type 0} → Sense V L → (program : List ℕ) → Plan V L → FilesSide → FilesSide → SourceSide → SourceSide → SinkSide
    → SinkSide → Ending → Type 0
Follows sense program plan files files' input input' out out' end =
    Course program (Asks sense files.told plan) (Comes sense program files.told input.left plan) files files' input input' out out' end

-- How an end is reported: err gained its text, and its status is answered; or err failed within the text, and the status is that of a write
-- fault.
pub data Reports (end : Ending) (old new : SinkSide) (status : ℕ) : Type 0 where
  said : status ≡ end.status → Gains old new end.text → Reports end old new status
  unsaid : status ≡ exit.write_fault → FailsWithin old new end.text → Reports end old new status

-- What a call may ask for and come to, by what is outside before.
pub record Scope : Type 1 where
  -- it may ask for this file
  pub asks : (name : List ℕ) → Type 0
  -- a file that it may ask for is told to be missing
  pub may_lack : Type 0
  -- a file that it does ask for is told to be missing
  pub lacks : Type 0
  -- this may become of the input, and this may come
  pub may : Reading → Due → Type 0

-- that of a plan
abbrev pub scope_of : {V L : Type 0} → Sense V L → (program : List ℕ) → Plan V L → Outside → Scope
scope_of sense program plan before = record {
  asks = Asks sense before.files.told plan;
  may_lack = MayLack sense before.files.told plan;
  lacks = Lacks sense before.files.told plan;
  may = Comes sense program before.files.told before.input.left plan;
}

-- How a call in the name of a program, with this scope, may change what is outside, and which status it may answer.
pub record AnswersWithin (program : List ℕ) (scope : Scope) (before after : Outside) (status : ℕ) : Type 0 where
  pub end : Ending
  pub course : Course program scope.asks scope.may before.files after.files before.input after.input before.out after.out end
  pub reported : Reports end before.err after.err status

-- the same with this plan
abbrev pub Answers : {V L : Type 0} → Sense V L → (program : List ℕ) → Plan V L → (before after : Outside) → (status : ℕ) → Type 0
Answers sense program plan before after status = AnswersWithin program (scope_of sense program plan before) before after status
