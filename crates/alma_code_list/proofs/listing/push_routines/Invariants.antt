use Rattle.std.proofs.Common.{◌≡◌, ◌++◌, flat_map, drop}
use Rattle.alma_code.specs.Plain.{code_of}
use Rattle.alma_code.specs.ListText.{routine_lines, text_line}
use Rattle.alma_code_list.proofs.listing.push_routines.Given as goal

abbrev pub invariant-loop-number : goal.invariant-loop-number
invariant-loop-number l =
    l.text.items ++ flat_map text_line (routine_lines (code_of l.code) l.number l.at (drop l.number (code_of l.code).routines))
    ≡ l.fn.text.items ++ flat_map text_line (routine_lines (code_of l.code) 0 0 (code_of l.code).routines)
