use Rattle.std.proofs.Common.{◌∙◌, rules, pos, ◌<ℤ◌, w64}
use Rattle.std.proofs.lemmas.Int.{ints, to_z-of_z}
use Rattle.alma_base.proofs.Division.{alike_rest}
use Rattle.alma_base.proofs.number.mod_down.Goals as goal

pub returns-else-a-gt0 : goal.returns-else-a-gt0
returns-else-a-gt0 c =
    let a = c.args.a in
    let b = c.args.b in
    let below : a <ℤ pos 0 → b <ℤ pos 0 = search (ints, rules, c.requires) in
    let above : pos 0 <ℤ a → pos 0 <ℤ b = search (ints, rules, c.requires) in
    let given = simp (to_z-of_z w64 a c.ranges.a, to_z-of_z w64 b c.ranges.b) at c.wrapping_rem.ensures in
    rw (to_z-of_z w64 c.wrapping_rem.result (record { sfits = c.wrapping_rem.type_inv })) (given ∙ alike_rest a b c.requires below above)
