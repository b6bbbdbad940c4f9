use Rattle.std.proofs.lemmas.Result.{err_from_is_err_and}
use Rattle.alma_driver_words.specs.declared.command.Command.TheVariants as commands
use Rattle.alma_driver_words.proofs.WordLemmas.{bad_name, trace_error}
use Rattle.alma_driver_words.proofs.words.read_trace.Goals as goal

pub returns-in_default : goal.returns-in_default
returns-in_default c = bad_name commands.Trace _ tt c.in_default.ensures

pub returns-in_err-options : goal.returns-in_err-options
returns-in_err-options c =
    let p = err_from_is_err_and c.from_residual.result c.from_residual.ensures.1 in
    rw (c.in-Some.ensures.0, p.1, p.2) (trace_error _ _ _ c.in-Some.ensures.1 c.in_err-options.ensures)
