use Rattle.std.proofs.Common.{rules, w64, FitsSigned}
use Rattle.std.proofs.lemmas.Int.{to_z-of_z}
use Rattle.std.specs.Int.{CanDivide}
use Rattle.std.specs.Prelude.{SomeIff, int_div}
use Rattle.alma_base.proofs.Division.{checked_alike}
use Rattle.alma_base.proofs.number.div_alike.Goals as goal

pub returns : goal.returns
returns c =
    let a = c.args.a in
    let b = c.args.b in
    let fits_a : FitsSigned w64 a = search rules in
    let fits_b : FitsSigned w64 b = search rules in
    let given : SomeIff c.checked_div.result (CanDivide w64 a b) (int_div a b) =
    simp (to_z-of_z w64 a fits_a, to_z-of_z w64 b fits_b) at c.checked_div.ensures in
    checked_alike a b c.checked_div.result fits_b c.requires.nonzero c.requires.below c.requires.above given
