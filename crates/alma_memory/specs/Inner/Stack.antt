-- The stack of entries, each with its copy.
use Rattle.std.specs.Prelude.{List, [], ◌∷◌}
use Rattle.alma_code.specs.Picture.{PlainFrame, PlainEntry}
use Rattle.alma_memory.specs.declared.stack.Entry.{Entry}

-- an entry with its copy
abbrev pub entry_with : Entry → List PlainFrame → PlainEntry
entry_with entry frames = record { kind = entry.kind; resume = entry.resume; frames = frames; carry = entry.carry }

-- the entries with their copies
abbrev pub stack_of : List Entry → (copies : List (List PlainFrame)) → List PlainEntry
stack_of [] copies = []
stack_of (entry ∷ entries) [] = []
stack_of (entry ∷ entries) (frames ∷ copies) = entry_with entry frames ∷ stack_of entries copies
