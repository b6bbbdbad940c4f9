use Rattle.std.proofs.Common.{◌++◌, ◌∷◌, [], ap, ◌∙◌}
use Rattle.alma_check_type.proofs.BlockSteps.{counted_new}
use Rattle.alma_check_type.proofs.reader.Reader.enter.Goals as goal

pub invariant_of-self-2 : goal.invariant_of-self-2
invariant_of-self-2 c =
    counted_new c.self.inside.below.items c.push.new.self.items c.self.inside.top c.self.inside.all c.self.inside.env.scopes
    c.push_block.new.self c.self.invariant
    (c.in_ok-push.ensures.items ∙ ap (λ xs. xs ++ c.self.inside.top ∷ []) c.in_ok-reserve.ensures.items) c.in_ok-push_block.ensures.ok
