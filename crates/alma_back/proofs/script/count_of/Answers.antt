use Rattle.std.proofs.Common.{◌∙◌, arith}
use Rattle.alma_back.proofs.Counts.{count_found, count_none}
use Rattle.alma_back.proofs.script.count_of.Goals as goal

pub returns-in_default : goal.returns-in_default
returns-in_default c = count_found c.args.text.now _ c.in_ok-count.ensures (λ zero. omega (arith, zero))

pub returns-in_err-count : goal.returns-in_err-count
returns-in_err-count c = c.from_residual.ensures ∙ count_none c.args.text.now c.in_err-count.ensures
