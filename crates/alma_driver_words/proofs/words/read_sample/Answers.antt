use Rattle.std.proofs.Common.{[]}
use Rattle.alma_driver_words.proofs.WordLemmas.{bad_lines, bad_behind_lines}
use Rattle.alma_driver_words.proofs.words.read_sample.Goals as goal

pub returns-in_default : goal.returns-in_default
returns-in_default c = rw c.in_default.ensures (bad_lines [] tt)

pub returns-in_default-named_lines : goal.returns-in_default-named_lines
returns-in_default-named_lines c = rw c.in-Some.ensures (bad_lines _ c.in_default-named_lines.ensures)

pub returns-in-Some-split_word : goal.returns-in-Some-split_word
returns-in-Some-split_word c = rw (c.in-Some.ensures, c.in-Some-split_word.ensures) (bad_behind_lines _ _ _ _ c.in-Some-named_lines.ensures)
