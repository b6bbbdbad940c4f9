use Rattle.std.proofs.Common.{◌<◌, ℕ, get_or, ◌∙◌, sym, arith}
use Rattle.alma_object.proofs.Whole.{is_object}
use Rattle.alma_object.proofs.view.ObjectView.new.Goals as goal

pub invariant_of-result-clause-cells : goal.invariant_of-result-clause-cells
invariant_of-result-clause-cells c = λ i. omega (arith, c.type_inv.bytes i)

pub returns-clause-object : goal.returns-clause-object
returns-clause-object c =
    let cells : (i : ℕ) → get_or c.args.bytes.now i 0 < 256 = λ i. omega (arith, c.type_inv.bytes i) in
    is_object c.args.bytes.now c.in_ok-header.header cells c.in_ok-header.ensures.header.0 c.in_ok-header.ensures.header.1
    c.in_ok-header.ensures.fault (sym c.sections_fault.ensures.fault ∙ c.in_default.is) c.in_default.ensures.whole
