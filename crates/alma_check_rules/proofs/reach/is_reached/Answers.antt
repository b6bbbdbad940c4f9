use Rattle.std.proofs.Common.{rules, w64, refl}
use Rattle.std.proofs.lemmas.Int.{to_z-of_z}
use Rattle.alma_check_rules.proofs.Starts.{reached_as}
use Rattle.alma_check_rules.proofs.reach.is_reached.Goals as goal

pub returns-in-Some : goal.returns-in-Some
returns-in-Some c = reached_as c.args.ends.now c.args.base c.args.low c.args.high c.in-Some.end _
    (rw (to_z-of_z w64 c.args.high (search rules), to_z-of_z w64 c.in-Some.end (search rules)) refl)
    (rw (to_z-of_z w64 c.args.low (search rules)) at c.in-Some.ensures)
