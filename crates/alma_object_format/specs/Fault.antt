-- The first fault of a part or of several items, and what is told of a fault.
use Rattle.std.specs.Prelude.{ℕ, zero, suc, Bool, Option, Some, None, List, length, nat_le, codes}
use Rattle.alma_base.specs.FirstFault.{unless, or_else}
use Rattle.alma_object_format.specs.declared.fault.ObjectFault.{ObjectFault}
use Rattle.alma_object_format.specs.declared.fault.ObjectFault.TheVariants as fault

-- the part up to an offset is whole, or the bytes are cut
abbrev pub whole : List ℕ → (end : ℕ) → Option ObjectFault → Option ObjectFault
whole bytes end rest = unless (nat_le end (length bytes)) (fault.Cut (length bytes)) rest

-- the first fault of n items from one on
unfoldable pub first_fault : (ℕ → Option ObjectFault) → (item n : ℕ) → Option ObjectFault
first_fault of item zero = None
first_fault of item (suc n) = or_else (of item) (first_fault of (suc item) n)

-- ---- what is told of a fault

-- its name
abbrev pub object_fault_name : ObjectFault → List ℕ
object_fault_name fault.Magic = codes "Magic"
object_fault_name (fault.Version version) = codes "Version"
object_fault_name (fault.Cut length) = codes "Cut"
object_fault_name (fault.Trailing offset) = codes "Trailing"
object_fault_name (fault.BadCount offset) = codes "BadCount"
object_fault_name (fault.BadOpcode offset) = codes "BadOpcode"
object_fault_name (fault.BadName offset) = codes "BadName"

-- its number, which Magic has not
abbrev pub object_fault_number : ObjectFault → Option ℕ
object_fault_number fault.Magic = None
object_fault_number (fault.Version version) = Some version
object_fault_number (fault.Cut length) = Some length
object_fault_number (fault.Trailing offset) = Some offset
object_fault_number (fault.BadCount offset) = Some offset
object_fault_number (fault.BadOpcode offset) = Some offset
object_fault_number (fault.BadName offset) = Some offset
