-- What reading the program of a file may answer.
use Rattle.std.specs.Prelude.{◌≡◌, ◌≤◌, ℕ, List, length, Result, Ok, Err}
use Rattle.alma_base.specs.Limits.{source_limit}
use Rattle.alma_base.specs.declared.place.Place.{Place}
use Rattle.alma_io.specs.Causes.{Rose}
use Rattle.alma_io.specs.Files.{Told, Missing, MayHave, MayPass}
use Rattle.alma_io.specs.declared.files.Fetch.{Fetch}
use Rattle.alma_io.specs.declared.files.Fetch.TheVariants as fetch
use Rattle.alma_ir.specs.View.{program_of}
use Rattle.alma_ir.specs.declared.program.Program.{Program}
use Rattle.alma_source.specs.Verdict.{Verdict, Accepted, Rejected, IsVerdict}
use Rattle.alma_source.specs.declared.fault.SourceFault.{SourceFault}
use Rattle.alma_source.specs.declared.fault.SourceFault.TheVariants as source_fault
use Rattle.alma_unit.specs.declared.unit.UnitError.{UnitError}
use Rattle.alma_unit.specs.declared.unit.UnitError.TheVariants.{Absent, Failed, TooLong, Lex, Syntax, Check, Memory}

-- the error of a fault of a source
abbrev pub fault_error : SourceFault → Place → UnitError
fault_error (source_fault.Lex fault) place = Lex fault place
fault_error (source_fault.Syntax fault) place = Syntax fault place
fault_error (source_fault.Check fault) place = Check fault place

-- what reading a source may answer: its verdict; want of memory is free
abbrev pub IsUnitOf : (source : List ℕ) → Result Program UnitError → Type 0
IsUnitOf source (Ok p) = IsVerdict source (Accepted (program_of p))
IsUnitOf source (Err (Lex fault place)) = IsVerdict source (Rejected (source_fault.Lex fault) place)
IsUnitOf source (Err (Syntax fault place)) = IsVerdict source (Rejected (source_fault.Syntax fault) place)
IsUnitOf source (Err (Check fault place)) = IsVerdict source (Rejected (source_fault.Check fault) place)
IsUnitOf source (Err Memory) = Unit {0}
IsUnitOf source (Err Absent) = ⊥
IsUnitOf source (Err Failed) = ⊥
IsUnitOf source (Err TooLong) = ⊥

-- the file may hold a source that comes to this
abbrev pub MayComeTo : Told → Verdict → Type 0
MayComeTo told verdict = (source : List ℕ) × MayHave told source × (length source ≤ source_limit) × IsVerdict source verdict

-- what reading a file of which this is told may answer, and what that leaves of the fetch counts
abbrev pub IsUnit : Told → (name : List ℕ) → (before now : List ℕ → ℕ) → Result Program UnitError → Type 0
IsUnit told name before now (Ok p) = MayComeTo told (Accepted (program_of p)) × (now ≡ before)
IsUnit told name before now (Err (Lex fault place)) = MayComeTo told (Rejected (source_fault.Lex fault) place) × (now ≡ before)
IsUnit told name before now (Err (Syntax fault place)) = MayComeTo told (Rejected (source_fault.Syntax fault) place) × (now ≡ before)
IsUnit told name before now (Err (Check fault place)) = MayComeTo told (Rejected (source_fault.Check fault) place) × (now ≡ before)
IsUnit told name before now (Err Absent) = (told ≡ Missing) × (now ≡ before)
IsUnit told name before now (Err TooLong) = MayPass told source_limit × (now ≡ before)
IsUnit told name before now (Err Failed) = (before name ≤ now name) × Rose (before name) (now name)
IsUnit told name before now (Err Memory) = now ≡ before

-- ---- inner

-- the error of a fetch that gave no file
abbrev pub fetch_error : Fetch → UnitError
fetch_error fetch.Absent = Absent
fetch_error fetch.Failed = Failed
fetch_error fetch.TooLong = TooLong
fetch_error fetch.Memory = Memory
