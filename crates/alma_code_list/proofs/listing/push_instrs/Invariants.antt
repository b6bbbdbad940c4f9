use Rattle.std.proofs.Common.{◌≡◌, ◌+◌, ◌++◌, flat_map, drop}
use Rattle.alma_code.specs.ListText.{instr_lines, text_line}
use Rattle.alma_code_list.proofs.listing.push_instrs.Given as goal

abbrev pub invariant-loop-index : goal.invariant-loop-index
invariant-loop-index l =
    l.text.items ++ flat_map text_line (instr_lines (l.at + l.index) (drop l.index l.instrs)) ≡ l.fn.text.items
    ++ flat_map text_line (instr_lines l.at l.instrs)
