-- What is outside of a call as it stands at one moment, what becomes of it, and what failed.
use Rattle.std.specs.Prelude.{◌≡◌, ◌≢◌, ◌≤◌, ◌<◌, ◌⊎◌, List, ℕ, Option, None, Some, Result, Ok, Err}
use Rattle.std.specs.Io.KnownBytes.{Appends}
use Rattle.alma_io.specs.Causes.{Rose}
use Rattle.alma_io.specs.Files.{NowHas}
use Rattle.alma_io.specs.Fronts.{AppendsFront}
use Rattle.alma_io.specs.Sides.{SinkSide, SourceSide, FilesSide}

-- all sides
pub record Outside : Type 0 where
  pub files : FilesSide
  pub input : SourceSide
  pub out : SinkSide
  pub err : SinkSide

-- the same by its parts
abbrev pub outside_of : FilesSide → SourceSide → SinkSide → SinkSide → Outside
outside_of files input out err = record { files = files; input = input; out = out; err = err }

-- ---- the files

-- bytes under the name of a file
pub record StoredFile : Type 0 where
  pub name : List ℕ
  pub bytes : List ℕ

-- the files tell what they told, and no store failed
abbrev pub FilesStay : FilesSide → FilesSide → Type 0
FilesStay old new = ((name : List ℕ) → new.told name ≡ old.told name) × (new.store_faults ≡ old.store_faults)

-- the files tell what they told of all other names
abbrev pub OthersStay : FilesSide → FilesSide → (name : List ℕ) → Type 0
OthersStay old new name = (other : List ℕ) → other ≢ name → new.told other ≡ old.told other

-- the file has these bytes, if it is told; all others stay, and no store failed
abbrev pub HasStored : FilesSide → FilesSide → StoredFile → Type 0
HasStored old new stored =
    OthersStay old new stored.name × NowHas (old.told stored.name) (new.told stored.name) stored.bytes
    × (new.store_faults ≡ old.store_faults)

-- the files are what they become where this is to be stored
abbrev pub Become : FilesSide → FilesSide → Option StoredFile → Type 0
Become old new None = FilesStay old new
Become old new (Some stored) = HasStored old new stored

-- ---- the input

-- what is left of the input may be these bytes
abbrev pub MayBeLeft : Option (List ℕ) → List ℕ → Type 0
MayBeLeft None bytes = Unit {0}
MayBeLeft (Some left) bytes = left ≡ bytes

-- ---- what failed

-- a fault came: the count never falls, and it grew or stands at its last value
abbrev pub HasRisen : ℕ → ℕ → Type 0
HasRisen before now = (before ≤ now) × Rose before now

-- ---- the outputs

-- the sink gained these bytes, and did not fail
pub record Gains (old new : SinkSide) (bytes : List ℕ) : Type 0 where
  pub bytes_are : Appends old.written new.written bytes
  pub quiet : new.faults ≡ old.faults

-- the sink gained a prefix of these bytes, and failed
pub record FailsWithin (old new : SinkSide) (bytes : List ℕ) : Type 0 where
  pub front : AppendsFront old.written new.written bytes
  pub risen : HasRisen old.faults new.faults

-- what a write of these bytes comes to: the sink gained them, or failed within them
abbrev pub Writes : {T E : Type 0} → SinkSide → SinkSide → List ℕ → Result T E → Type 0
Writes old new bytes (Ok _) = Gains old new bytes
Writes old new bytes (Err _) = FailsWithin old new bytes

-- ---- the call

-- a write or a store failed in the call
abbrev pub WriteFailed : Outside → Outside → Type 0
WriteFailed before after =
    Rose before.out.faults after.out.faults ⊎ (Rose before.err.faults after.err.faults
    ⊎ Rose before.files.store_faults after.files.store_faults)

-- a count of failed writes or stores is greater now
abbrev pub WritesGrew : Outside → Outside → Type 0
WritesGrew before after =
    (before.out.faults < after.out.faults) ⊎ ((before.err.faults < after.err.faults)
    ⊎ (before.files.store_faults < after.files.store_faults))

-- the fetch of a file or a read of the input failed in the call
abbrev pub ReadFailed : Outside → Outside → Type 0
ReadFailed before after =
    ((name : List ℕ) × Rose (before.files.fetch_faults name) (after.files.fetch_faults name))
    ⊎ Rose before.input.faults after.input.faults

-- a count of failed fetches or reads is greater now
abbrev pub ReadsGrew : Outside → Outside → Type 0
ReadsGrew before after =
    ((name : List ℕ) × (before.files.fetch_faults name < after.files.fetch_faults name)) ⊎ (before.input.faults < after.input.faults)

-- no count of faults rose in the call, and memory was found
pub record IsUndisturbed (before after : Outside) (status : ℕ) : Type 0 where
  pub no_read_failed : ReadFailed before after → ⊥
  pub no_write_failed : WriteFailed before after → ⊥
  pub memory : status ≢ 8
