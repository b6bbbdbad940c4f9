-- The words that requests begin with.
use Rattle.std.specs.Prelude.{List, ℕ, codes}
use Rattle.alma_driver_words.specs.declared.command.Command.{Command}
use Rattle.alma_driver_words.specs.declared.command.Command.TheVariants as commands

-- the word of a command
abbrev pub word_of : Command → List ℕ
word_of commands.Check = codes "check"
word_of commands.Compile = codes "compile"
word_of commands.List = codes "list"
word_of commands.Run = codes "run"
word_of commands.Exec = codes "exec"
word_of commands.Trace = codes "trace"
word_of commands.Sample = codes "sample"
