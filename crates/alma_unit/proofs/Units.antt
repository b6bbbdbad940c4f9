-- What reading a source and a file answers.
use Rattle.std.proofs.Common.{◌≡◌, ◌≤◌, ℕ, List, length}
use Rattle.std.specs.Prelude.{Result, Ok, Err}
use Rattle.alma_base.specs.Limits.{source_limit}
use Rattle.alma_base.specs.declared.place.Place.{Place}
use Rattle.alma_io.specs.Files.{Told, MayHave, IsFetched}
use Rattle.alma_io.specs.declared.files.Fetch.{Fetch}
use Rattle.alma_io.specs.declared.files.Fetch.TheVariants as fetch
use Rattle.alma_ir.specs.declared.program.Program.{Program}
use Rattle.alma_ir.specs.Tree as tree
use Rattle.alma_resolved.proofs.Routines.{program_has_room}
use Rattle.alma_resolved.specs.Room.{HasRoom}
use Rattle.alma_source.specs.Refusal.{IsProgramOf, IsRefused, place_of}
use Rattle.alma_source.specs.declared.fault.SourceFault.{SourceFault}
use Rattle.alma_source.specs.declared.fault.SourceFault.TheVariants as source_fault
use Rattle.alma_unit.specs.Unit.{IsUnit, IsUnitOf, fault_error, fetch_error}
use Rattle.alma_unit.specs.declared.unit.UnitError.{UnitError}
use Rattle.alma_unit.specs.declared.unit.UnitError.TheVariants.{Absent, Failed, TooLong, Lex, Syntax, Check, Memory}

-- the program of a short source has room
pub room_of : (source : List ℕ) (p : tree.Program) → length source ≤ source_limit → IsProgramOf source p → HasRoom p
room_of source p short is = program_has_room source is.tokens is.tree p short is.parsed.whole is.program

abbrev failed : UnitError → Result Program UnitError
failed error = Err error

-- a refusal is a verdict
pub unit_refused : (source : List ℕ) (fault : SourceFault) (offset : ℕ) (place : Place) → IsRefused source fault offset
    → place ≡ place_of source offset
    → IsUnitOf source (failed (fault_error fault place))
unit_refused source (source_fault.Lex fault) offset place is at = (offset, is, at)
unit_refused source (source_fault.Syntax fault) offset place is at = (offset, is, at)
unit_refused source (source_fault.Check fault) offset place is at = (offset, is, at)

-- what comes of the bytes of a file
pub unit_fetched : (told : Told) (name : List ℕ) (before now : List ℕ → ℕ) (source : List ℕ) (r : Result Program UnitError)
    → MayHave told source
    → length source ≤ source_limit
    → now ≡ before → IsUnitOf source r → IsUnit told name before now r
unit_fetched told name before now source (Ok p) has short quiet is = ((source, has, short, is), quiet)
unit_fetched told name before now source (Err (Lex fault place)) has short quiet is = ((source, has, short, is), quiet)
unit_fetched told name before now source (Err (Syntax fault place)) has short quiet is = ((source, has, short, is), quiet)
unit_fetched told name before now source (Err (Check fault place)) has short quiet is = ((source, has, short, is), quiet)
unit_fetched told name before now source (Err Memory) has short quiet is = quiet
unit_fetched told name before now source (Err Absent) has short quiet is = absurd is
unit_fetched told name before now source (Err Failed) has short quiet is = absurd is
unit_fetched told name before now source (Err TooLong) has short quiet is = absurd is

-- and of none
pub unit_unfetched : (told : Told) (name : List ℕ) (before now : List ℕ → ℕ) (fault : Fetch)
    → IsFetched told name source_limit before now (Err fault)
    → IsUnit told name before now (failed (fetch_error fault))
unit_unfetched told name before now fetch.Absent h = h
unit_unfetched told name before now fetch.Failed h = h
unit_unfetched told name before now fetch.TooLong h = h
unit_unfetched told name before now fetch.Memory h = h
