use Rattle.alma_rules.specs.Nodes as nodes
use Rattle.alma_check_rules.specs.Views.{args_in}
use Rattle.alma_rules.proofs.Onwards.{onward_stops, passed_on, no_memory_on}
use Rattle.alma_rules.specs.Appends.{append_args}
use Rattle.alma_check_join_stmt.proofs.Steps as steps
use Rattle.alma_check_join_stmt.proofs.list.add_argument.Goals as goal

pub returns-in_err-arg : goal.returns-in_err-arg
returns-in_err-arg c = λ j m rest a. passed_on _ _ _ _ c.from_residual.ensures.1
    (onward_stops append_args nodes.cons_arg (args_in c.args.kept) j rest _ (rw c.in_err-arg.was at a))

pub returns-in_err-whole : goal.returns-in_err-whole
returns-in_err-whole c = λ j m rest a. no_memory_on _ _ _ c.from_residual-in_err-whole.ensures.1

pub returns : goal.returns
returns c = λ j m rest a. steps.arg_added _ c.args.kept _ j m rest (rw c.in_ok-arg.was at a) c.in_ok-whole.ensures
