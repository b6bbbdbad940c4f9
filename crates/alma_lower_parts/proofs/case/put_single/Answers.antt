use Rattle.std.proofs.Common.{rules, ◌≡◌, to_z, of_z, w64}
use Rattle.std.proofs.lemmas.Int.{to_z-of_z}
use Rattle.alma_lower_parts.proofs.LabelForms.{single_holes}
use Rattle.alma_lower_parts.proofs.case.put_single.Goals as goal

pub returns : goal.returns
returns c = λ test.
    let number : to_z w64 (of_z w64 c.args.number) ≡ c.args.number = to_z-of_z w64 c.args.number (search rules) in
    single_holes _ _ _ _ c.args.line _ _ _ _ c.args.number _ test number c.in_ok-put.ensures.codes c.in_ok-put-2.ensures.codes
    c.in_ok-jump.ensures.address c.in_ok-jump.ensures.codes
