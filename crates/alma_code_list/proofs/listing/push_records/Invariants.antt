use Rattle.std.proofs.Common.{◌≡◌, ◌++◌, flat_map, take}
use Rattle.alma_code.specs.ListText.{line_words, text_line}
use Rattle.alma_code_list.proofs.listing.push_records.Given as goal

abbrev pub invariant-loop-line : goal.invariant-loop-line
invariant-loop-line l = l.text.items ≡ l.fn.text.items ++ flat_map (λ record_. text_line (line_words record_)) (take l.line-index l.lines)
