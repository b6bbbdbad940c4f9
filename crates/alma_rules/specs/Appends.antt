-- One list of the resolved program behind another.
use Rattle.alma_ir.specs.Tree as ir

-- arguments, and others behind them
abbrev pub append_args : ir.Args → ir.Args → ir.Args
append_args ir.no_args ys = ys
append_args (ir.more_args x xs) ys = ir.more_args x (append_args xs ys)

-- arms of IF, and others behind them
abbrev pub append_arms : ir.Arms → ir.Arms → ir.Arms
append_arms ir.no_arms ys = ys
append_arms (ir.more_arms c b xs) ys = ir.more_arms c b (append_arms xs ys)

-- branches of EITHER, and others behind them
abbrev pub append_branches : ir.Branches → ir.Branches → ir.Branches
append_branches ir.no_branches ys = ys
append_branches (ir.more_branches b xs) ys = ir.more_branches b (append_branches xs ys)
