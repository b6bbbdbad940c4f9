use Rattle.std.proofs.Common.{◌≡◌, ◌++◌, flat_map, take}
use Rattle.alma_code.specs.Plain.{global_of}
use Rattle.alma_code.specs.ListText.{global_words, text_line}
use Rattle.alma_code_list.proofs.listing.push_globals.Given as goal

abbrev pub invariant-loop-global : goal.invariant-loop-global
invariant-loop-global l = l.text.items ≡ l.fn.text.items
    ++ flat_map (λ g. text_line (global_words (global_of g))) (take l.global-index l.globals)
