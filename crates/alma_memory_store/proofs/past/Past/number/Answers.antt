use Rattle.std.proofs.Common.{ap, ◌∙◌}
use Rattle.alma_memory_store.specs.Numbers.{number_of}
use Rattle.alma_memory_store.specs.Past.{PlainPast}
use Rattle.alma_memory_store.proofs.past.Past.number.Goals as goal

pub live_number-requires : goal.live_number-requires
live_number-requires c = c.self.invariant.now

pub returns : goal.returns
returns c =
    c.live_number.ensures
    ∙ ap (λ (q : PlainPast). number_of q.now c.args.place.frame c.args.place.slot) c.self.view_is
