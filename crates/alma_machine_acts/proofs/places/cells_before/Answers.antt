use Rattle.std.proofs.Common.{rules, ◌≡◌, ◌*◌, ap, arith, ◌∙◌, w64, to_z, of_z}
use Rattle.std.specs.Prelude.{◌-ℤ◌, nat_abs}
use Rattle.std.proofs.lemmas.Int.{to_z-of_z}
use Rattle.alma_machine_acts.proofs.Parts.{part_inside}
use Rattle.alma_machine_acts.proofs.places.cells_before.Goals as goal

-- the product is that of the difference
product : (c : goal.After-abs_diff) → c.abs_diff.result * c.args.part ≡ nat_abs (c.args.number -ℤ c.args.range.now.low) * c.args.part
product c =
    let v = c.args.number in
    let low = c.args.range.now.low in
    ap (λ n. n * c.args.part) (c.abs_diff.ensures ∙ ap (λ v. nat_abs (v -ℤ to_z w64 (of_z w64 low))) (to_z-of_z w64 v (search rules))
    ∙ ap (λ low. nat_abs (v -ℤ low)) (to_z-of_z w64 low (search rules)))

pub overflow_mul-result : goal.overflow_mul-result
overflow_mul-result c =
    let inside = part_inside c.args.range.now c.args.number c.args.part c.requires.within in
    omega (arith, inside, product c, c.requires.room)

pub overflow_cast-result-2 : goal.overflow_cast-result-2
overflow_cast-result-2 c =
    let inside = part_inside c.args.range.now c.args.number c.args.part c.requires.within in
    omega (arith, inside, product c, c.requires.room)

pub returns-clause-value : goal.returns-clause-value
returns-clause-value c = product c

pub returns-clause-inside : goal.returns-clause-inside
returns-clause-inside c =
    let inside = part_inside c.args.range.now c.args.number c.args.part c.requires.within in
    omega (arith, inside, product c)
