use Rattle.std.proofs.Common.{arith}
use Rattle.alma_object_format.proofs.Kept.{name_seen}
use Rattle.alma_object.proofs.view.ObjectView.name.Goals as goal

pub part-requires-clause-order : goal.part-requires-clause-order
part-requires-clause-order c =
    let seen = name_seen c.args.self.now.bytes.now c.args.self.now.header c.args.self.now.none c.args.name c.requires in
    omega (arith, seen.some)

pub part-requires-clause-end : goal.part-requires-clause-end
part-requires-clause-end c =
    let seen = name_seen c.args.self.now.bytes.now c.args.self.now.header c.args.self.now.none c.args.name c.requires in
    omega (arith, seen.name.high, c.args.self.now.whole)
