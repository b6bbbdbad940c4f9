-- Parts of one kind in front of those that are still judged.
use Rattle.std.specs.Prelude.{List, ◌++◌, Option}
use Rattle.alma_ir.specs.Tree as ir
use Rattle.alma_rules.specs.Judgement.{Judgement}
use Rattle.alma_rules.specs.Parts as parts
use Rattle.alma_rules.specs.Onward.{onward}
use Rattle.alma_rules.specs.Appends.{append_args, append_arms, append_branches}

-- operands that are there, and those that are judged behind them
abbrev pub onward_operands : Option parts.Operands → Judgement parts.Operands → Judgement parts.Operands
onward_operands xs j = onward (λ a b. a ++ b) xs j

-- the same of arguments
abbrev pub onward_args : Option ir.Args → Judgement ir.Args → Judgement ir.Args
onward_args xs j = onward append_args xs j

-- the same of statements
abbrev pub onward_stmts : Option ir.Stmts → Judgement ir.Stmts → Judgement ir.Stmts
onward_stmts xs j = onward parts.append_stmts xs j

-- the same of arms of IF
abbrev pub onward_arms : Option ir.Arms → Judgement ir.Arms → Judgement ir.Arms
onward_arms xs j = onward append_arms xs j

-- the same of arms of CASE
abbrev pub onward_cases : Option ir.CaseArms → Judgement ir.CaseArms → Judgement ir.CaseArms
onward_cases xs j = onward parts.append_cases xs j

-- the same of branches of EITHER
abbrev pub onward_branches : Option ir.Branches → Judgement ir.Branches → Judgement ir.Branches
onward_branches xs j = onward append_branches xs j

-- the same of labels of CASE
abbrev pub onward_spans : Option (List parts.Span) → Judgement (List parts.Span) → Judgement (List parts.Span)
onward_spans xs j = onward (λ a b. a ++ b) xs j
