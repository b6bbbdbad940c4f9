-- What a source comes to: one verdict.
use Rattle.std.specs.Prelude.{◌≡◌, ℕ, List}
use Rattle.alma_base.specs.declared.place.Place.{Place}
use Rattle.alma_ir.specs.Tree.{Program}
use Rattle.alma_source.specs.declared.fault.SourceFault.{SourceFault}
use Rattle.alma_source.specs.Refusal.{IsProgramOf, IsRefused, place_of}

-- the program of a source, or the fault for which it is refused and the place of that
pub data Verdict : Type 0 where
  Accepted : (p : Program) → Verdict
  Rejected : (fault : SourceFault) (place : Place) → Verdict

-- the source comes to it
abbrev pub IsVerdict : (source : List ℕ) → Verdict → Type 0
IsVerdict source (Accepted p) = IsProgramOf source p
IsVerdict source (Rejected fault place) = (offset : ℕ) × IsRefused source fault offset × (place ≡ place_of source offset)
