-- A carry that gains what a body changed.
use Rattle.std.specs.Prelude.{ℕ, List, get_or, set}
use Rattle.alma_base.specs.Carry.{Change, with_changes}
use Rattle.alma_code.specs.declared.cell.Cell.{Cell}
use Rattle.alma_memory_store.specs.declared.carry.SlotPlace.{SlotPlace}
use Rattle.alma_memory_store.specs.Carries.{cells_before_setting}
use Rattle.alma_back_tape.specs.declared.change.Entry.{Entry}
use Rattle.alma_back_tape.specs.Inner.PlainGain.{PlainGain}
use Rattle.alma_back_tape.specs.Inner.Reel.{no_entry}

-- the entry with these places set in its carry
abbrev pub entry_with_changes : Entry → List (Change Cell) → Entry
entry_with_changes entry changes = record entry { carry = with_changes changes entry.carry }

-- the entries where one of them gains these changes
abbrev pub entries_with_changes : (at : ℕ) → List (Change Cell) → List Entry → List Entry
entries_with_changes at changes entries = set entries at (entry_with_changes (get_or entries at no_entry) changes)

-- what one of the entries gains by cells for places
abbrev pub gain_of : (at : ℕ) → List (SlotPlace × Cell) → List Entry → PlainGain
gain_of at places entries = record { at = at; places = places; had = cells_before_setting places (get_or entries at no_entry).carry }
