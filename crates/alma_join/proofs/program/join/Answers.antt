use Rattle.std.proofs.Common.{◌<◌, ◌∙◌, sym, subst, arith, length, map}
use Rattle.std.proofs.lemmas.List.{length-map}
use Rattle.alma_ir.specs.Checked.{IsChecked}
use Rattle.alma_ir.specs.View.{program_of}
use Rattle.alma_join.proofs.Whole.{first_is, whole_is, no_fault}
use Rattle.alma_join.proofs.program.join.Goals as goal

pub returns-clause-joined : goal.returns-clause-joined
returns-clause-joined c =
    let some : 0 < length c.args.units.now = omega (arith, c.requires.units.some, length-map c.args.units.now program_of) in
    c.in_ok-program_with.ensures
    ∙ whole_is _ _ _ (first_is c.args.units.now c.index-units-0.result some c.index-units-0.is) c.in_ok-parts.ensures

pub returns-clause-sound : goal.returns-clause-sound
returns-clause-sound c = no_fault (map program_of c.args.units.now) c.in_ok-tables.ensures.sound c.in_default.ensures

pub returns-clause-checked : goal.returns-clause-checked
returns-clause-checked c =
    let some : 0 < length c.args.units.now = omega (arith, c.requires.units.some, length-map c.args.units.now program_of) in
    subst IsChecked (sym (c.in_ok-program_with.ensures ∙ whole_is _ _ _
    (first_is c.args.units.now c.index-units-0.result some c.index-units-0.is) c.in_ok-parts.ensures))
    (c.joined_is_checked.ensures (map program_of c.args.units.now) c.requires.units
    (no_fault (map program_of c.args.units.now) c.in_ok-tables.ensures.sound c.in_default.ensures))
