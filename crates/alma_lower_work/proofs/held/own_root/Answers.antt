use Rattle.std.proofs.Common.{rules}
use Rattle.alma_lower_work.proofs.Small.{no_part, part_of}
use Rattle.alma_lower_work.proofs.held.own_root.Goals as goal

pub returns-then-is_empty : goal.returns-then-is_empty
returns-then-is_empty c = no_part _ c.args.root c.args.sels.now (search rules)

pub returns : goal.returns
returns c = part_of _ _ c.args.root c.args.sels.now (λ h. search (rules, h)) c.param_slot.ensures
