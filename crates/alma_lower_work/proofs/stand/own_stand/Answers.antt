use Rattle.alma_lower_work.proofs.Bare.{elsewhere}
use Rattle.alma_lower_work.proofs.stand.own_stand.Goals as goal

pub returns-in-Global : goal.returns-in-Global
returns-in-Global c = elsewhere _ c.args.desig.now.root _ _ c.in-Global.is
