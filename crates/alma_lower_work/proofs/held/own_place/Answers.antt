use Rattle.std.proofs.Common.{rules}
use Rattle.alma_lower_work.proofs.Small.{placed}
use Rattle.alma_lower_work.proofs.held.own_place.Goals as goal

pub returns-then-not-is_empty : goal.returns-then-not-is_empty
returns-then-not-is_empty c = placed _ c.args.desig.now.root c.args.desig.now.cells c.args.desig.now.sels.items (λ h. search (rules, h))
