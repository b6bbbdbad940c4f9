use Rattle.std.proofs.Common.{◌∙◌, ap}
use Rattle.alma_base.specs.Carry.{carried_at}
use Rattle.alma_memory_store.proofs.Carrying.{lookup-listed}
use Rattle.alma_memory_store.proofs.carry.Carry.get.Goals as goal

pub returns : goal.returns
returns c =
    c.copied.ensures ∙ (c.get.ensures.value
    ∙ (lookup-listed c.self.inside.cells.entries c.args.place ∙ ap (carried_at c.args.place.frame c.args.place.slot) c.self.view_is))
