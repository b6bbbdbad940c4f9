use Rattle.std.proofs.Common.{◌≡◌, ◌++◌, map, drop}
use Rattle.alma_rules.specs.Places as places
use Rattle.alma_check_marks.specs.Marking.{mark_of}
use Rattle.alma_check_marks.proofs.widths.tokens_in.Given as goal

abbrev pub invariant-loop-mark : goal.invariant-loop-mark
invariant-loop-mark l =
    places.stmt_tokens (map mark_of l.marks.marks.items) ≡ l.tokens.items
    ++ places.stmt_tokens (map mark_of (drop l.mark-index l.marks.marks.items))
