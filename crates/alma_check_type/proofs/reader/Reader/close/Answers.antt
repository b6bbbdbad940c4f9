use Rattle.alma_check_type.proofs.BlockSteps.{counted_left}
use Rattle.alma_check_type.proofs.reader.Reader.close.Goals as goal

pub invariant_of-self-2 : goal.invariant_of-self-2
invariant_of-self-2 c =
    counted_left c.self.inside.below.items c.pop.new.self.items c.self.inside.top c.self.inside.all c.in-Some.count c.self.inside.env.scopes
    c.pop_block.new.self c.self.invariant c.in-Some.ensures.items
    c.pop_block.ensures
