-- When a fault is answered, that none is hidden, and what out, err and the files became by then.
use Rattle.std.specs.Prelude.{◌≡◌, ◌≢◌, ◌⊎◌, List, ℕ, [], Some}
use Rattle.std.specs.Io.KnownBytes.{Appends}
use Rattle.alma_driver_words.specs.Exit as exit
use Rattle.alma_io.specs.Causes.{Rose}
use Rattle.alma_io.specs.Outside.{FilesStay, Outside, StoredFile, OthersStay, Become, WriteFailed, WritesGrew, ReadsGrew, Gains}
use Rattle.alma_plan.specs.Plan.{Ending, Due, Plan, Sense, Reading, Comes}
use Rattle.alma_plan.specs.Plan.{read_fault, write_fault, no_memory}
use Rattle.alma_plan.specs.Course.{Takes, MayRead, GainsPrefix, Reports, Scope, scope_of}

-- ---- what a call met

-- the fetch of a file that it may ask for failed in the call
abbrev pub FetchFailed : (asks : List ℕ → Type 0) → Outside → Outside → Type 0
FetchFailed asks before after = (name : List ℕ) × asks name × Rose (before.files.fetch_faults name) (after.files.fetch_faults name)

-- a read of the input failed in the call, and what may come reads it
abbrev pub InputFailed : (may : Reading → Due → Type 0) → Outside → Outside → Type 0
InputFailed may before after = Rose before.input.faults after.input.faults × MayRead may

-- ---- what may come

-- what may come of a plan, by what is outside before
abbrev pub MayCome : {V L : Type 0} → Sense V L → (program : List ℕ) → Plan V L → Outside → Reading → Due → Type 0
MayCome sense program plan before = Comes sense program before.files.told before.input.left plan

-- a file that is to be stored
abbrev pub IsStoredName : (may : Reading → Due → Type 0) → List ℕ → Type 0
IsStoredName may name = (reading : Reading) × (due : Due) × (stored : StoredFile) × may reading due × (due.stored ≡ Some stored)
    × (stored.name ≡ name)

-- an end that the call may come to: a fault of the outside, want of memory, or one that is due
pub data MayEnd (program : List ℕ) (may : Reading → Due → Type 0) (end : Ending) : Type 0 where
  unread_end : end ≡ read_fault program → MayEnd program may end
  unwritten_end : end ≡ write_fault program → MayEnd program may end
  starved_end : end ≡ no_memory program → MayEnd program may end
  due_end : (reading : Reading) (due : Due) → may reading due → due.end ≡ end → MayEnd program may end

-- all that is due came: the status, out, err, the files and the input
abbrev pub IsWhole : (may : Reading → Due → Type 0) → Outside → Outside → (status : ℕ) → Type 0
IsWhole may before after status =
    (reading : Reading) × (due : Due) × may reading due × (status ≡ due.end.status)
    × Gains before.out after.out due.out × Gains before.err after.err due.end.text
    × Become before.files after.files due.stored × Takes reading before.input after.input

-- ---- the call

-- What each status says of a call with this scope, and what a call shows that met a fault.
pub record CausesWithin (program : List ℕ) (scope : Scope) (before after : Outside) (status : ℕ) : Type 0 where
  -- a read fault comes only where the fetch of a file failed that the call may ask for, where a read of the input failed that what may
  -- come reads, or where a file that it may ask for is told to be missing
  pub read_fault_is : status ≡ exit.read_fault → FetchFailed scope.asks before after
      ⊎ (InputFailed scope.may before after ⊎ scope.may_lack)
  -- at a read fault nothing was written to out
  pub nothing : status ≡ exit.read_fault → Appends before.out.written after.out.written []
  -- a write fault comes only where a write or a store failed
  pub write_fault_is : status ≡ exit.write_fault → WriteFailed before after
  -- whatever the status, out gained no more than what is due
  pub prefix : GainsPrefix scope.may before.out after.out
  -- err gained the text of the status; or it failed within the text of the status before, and that of a write fault is answered
  pub reported : (end : Ending) × MayEnd program scope.may end × Reports end before.err after.err status
  -- the files stay, but for one that is to be stored
  pub files : FilesStay before.files after.files
      ⊎ ((name : List ℕ) × IsStoredName scope.may name × OthersStay before.files after.files name)
  -- at a read fault and at want of memory all of them stay
  pub files_stay : (status ≡ exit.read_fault) ⊎ (status ≡ exit.no_memory) → FilesStay before.files after.files
  -- but for read faults, write faults and want of memory, status, out, err, files and the input are all that is due
  pub whole : (status ≢ exit.read_fault) → (status ≢ exit.write_fault) → (status ≢ exit.no_memory) → IsWhole scope.may before after status
  -- a failed write or store is not hidden: it is a write fault
  pub writes_shown : WritesGrew before after → status ≡ exit.write_fault
  -- nor a failed fetch or read, where no write failed: it is a read fault
  pub reads_shown : ReadsGrew before after → WriteFailed before after ⊎ (status ≡ exit.read_fault)
  -- the input stays but where what may come reads it
  pub input : (after.input ≡ before.input) ⊎ MayRead scope.may
  -- nor is it hidden that a file is missing
  pub absence_shown : scope.lacks → (status ≡ exit.read_fault) ⊎ ((status ≡ exit.write_fault) ⊎ (status ≡ exit.no_memory))

-- the same of a call with this plan
abbrev pub Causes : {V L : Type 0} → Sense V L → (program : List ℕ) → Plan V L → (before after : Outside) → (status : ℕ) → Type 0
Causes sense program plan before after status = CausesWithin program (scope_of sense program plan before) before after status
