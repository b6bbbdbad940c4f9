use Rattle.alma_memory_store.proofs.Blanks.{fresh-image}
use Rattle.alma_memory_store.proofs.image.renew.Goals as goal

pub returns-clause-image : goal.returns-clause-image
returns-clause-image g c = λ written.
    fresh-image c.push_runs.new.runs.items (g.H.Head.head c.args.head.now).runs c.put_blanks.new.slots.items written c.push_runs.ensures
    c.in_ok-put_blanks.ensures.slots
