use Rattle.alma_driver_words.specs.declared.command.Command.TheVariants as commands
use Rattle.alma_driver_words.proofs.WordLemmas.{bad_name, bad_behind_check, bad_behind_list}
use Rattle.alma_driver_words.proofs.words.read_one.Goals as goal

pub returns-in_default : goal.returns-in_default
returns-in_default c = (bad_name commands.Check _ tt c.in_default.ensures, bad_name commands.List _ tt c.in_default.ensures)

pub returns-in-Some-split_word : goal.returns-in-Some-split_word
returns-in-Some-split_word c =
    rw (c.in-Some.ensures.0, c.in-Some-split_word.ensures)
    (bad_behind_check _ _ _ c.in-Some.ensures.1, bad_behind_list _ _ _ c.in-Some.ensures.1)
