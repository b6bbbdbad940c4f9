use Rattle.std.proofs.Common.{◌≡◌, ◌++◌, flat_map, take}
use Rattle.alma_code_list.specs.Spaces.{behind_space}
use Rattle.alma_code_list.proofs.line.push_numbers.Given as goal

abbrev pub invariant-loop-number : goal.invariant-loop-number
invariant-loop-number l = l.text.items ≡ l.fn.text.items ++ flat_map behind_space (take l.number-index l.numbers)
