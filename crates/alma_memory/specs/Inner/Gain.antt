-- An entry whose carry gains some changes.
use Rattle.std.specs.Prelude.{List, []}
use Rattle.alma_base.specs.Carry.{Change, with_changes}
use Rattle.alma_code.specs.declared.cell.Cell.{Cell}
use Rattle.alma_code.specs.declared.cell.ChoiceKind.TheVariants.{Branch}
use Rattle.alma_memory.specs.declared.stack.Entry.{Entry}

-- what stands for an entry that is not there
abbrev pub no_stack_entry : Entry
no_stack_entry = record { kind = Branch; resume = 0; carry = [] }

-- the entry with these places set in its carry
abbrev pub entry_with_changes : Entry → List (Change Cell) → Entry
entry_with_changes entry changes = record entry { carry = with_changes changes entry.carry }
