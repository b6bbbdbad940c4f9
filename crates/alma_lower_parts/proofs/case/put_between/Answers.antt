use Rattle.std.proofs.Common.{rules, ◌≡◌, to_z, of_z, w64}
use Rattle.std.proofs.lemmas.Int.{to_z-of_z}
use Rattle.alma_lower_parts.proofs.LabelForms.{between_holes}
use Rattle.alma_lower_parts.proofs.case.put_between.Goals as goal

pub returns : goal.returns
returns c = λ test.
    let low : to_z w64 (of_z w64 c.args.label.low) ≡ c.args.label.low = to_z-of_z w64 c.args.label.low (search rules) in
    let high : to_z w64 (of_z w64 c.args.label.high) ≡ c.args.label.high = to_z-of_z w64 c.args.label.high (search rules) in
    between_holes _ _ _ _ _ _ _ c.args.line _ _ _ _ _ c.args.label _ _ test low high c.in_ok-put.ensures.codes c.in_ok-put-2.ensures.codes
    c.in_ok-low.ensures.address c.in_ok-low.ensures.codes
    c.in_ok-put-3.ensures.codes c.in_ok-put-4.ensures.codes c.in_ok-high.ensures.address c.in_ok-high.ensures.codes
