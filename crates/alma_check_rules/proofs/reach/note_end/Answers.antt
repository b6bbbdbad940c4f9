use Rattle.std.proofs.Common.{rules, w64}
use Rattle.std.proofs.lemmas.Int.{to_z-of_z}
use Rattle.alma_check_rules.proofs.Changes.{topped_insert, keeps_insert, keeps_on}
use Rattle.alma_check_rules.proofs.reach.note_end.Goals as goal

pub drop_within-requires : goal.drop_within-requires
drop_within-requires c = let far = rw (
  c.if-is_reached.false,
  to_z-of_z w64 c.args.low (search rules),
  to_z-of_z w64 c.args.high (search rules),
) at c.is_reached.ensures in
    let changed = rw (to_z-of_z w64 c.args.low (search rules), to_z-of_z w64 c.args.high (search rules))
    at c.in_ok-insert.ensures.updates.0 in
    rw (to_z-of_z w64 c.args.low (search rules), to_z-of_z w64 c.args.high (search rules))
    (topped_insert c.args.ends.now c.insert.new.self c.args.base c.args.low c.args.high (record { now = λ q. changed q }) c.requires
    far)

pub returns-clause-keeps : goal.returns-clause-keeps
returns-clause-keeps c = let far = rw (
  c.if-is_reached.false,
  to_z-of_z w64 c.args.low (search rules),
  to_z-of_z w64 c.args.high (search rules),
) at c.is_reached.ensures in
    let changed = rw (to_z-of_z w64 c.args.low (search rules), to_z-of_z w64 c.args.high (search rules))
    at c.in_ok-insert.ensures.updates.0 in
    keeps_on _ _ _ (keeps_insert c.args.ends.now c.insert.new.self c.args.base c.args.low c.args.high (record { now = λ q. changed q })
    c.requires far) c.drop_within.ensures.keeps
