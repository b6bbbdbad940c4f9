use Rattle.alma_driver_words.specs.declared.command.Command.TheVariants as commands
use Rattle.alma_driver_words.proofs.WordLemmas.{bad_name, bad_object, bad_behind_object}
use Rattle.alma_driver_words.proofs.words.read_compile.Goals as goal

pub returns-in_default : goal.returns-in_default
returns-in_default c = bad_name commands.Compile _ tt c.in_default.ensures

pub returns-in_default-split_name : goal.returns-in_default-split_name
returns-in_default-split_name c = rw c.in-Some.ensures.0 (bad_object _ _ c.in-Some.ensures.1 c.in_default-split_name.ensures)

pub returns-in-Some-split_word : goal.returns-in-Some-split_word
returns-in-Some-split_word c =
    rw (c.in-Some.ensures.0, c.in-Some-split_name.ensures.0, c.in-Some-split_word.ensures)
    (bad_behind_object _ _ _ _ c.in-Some.ensures.1 c.in-Some-split_name.ensures.1)
