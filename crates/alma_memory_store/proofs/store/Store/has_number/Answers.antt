use Rattle.std.proofs.Common.{take, subst}
use Rattle.alma_memory_store.specs.Frames.{AreWhole}
use Rattle.alma_memory_store.specs.PlainStore.{PlainStore}
use Rattle.alma_memory_store.proofs.Frames.{whole-frames}
use Rattle.alma_memory_store.proofs.store.Store.has_number.Goals as goal

pub returns-clause-whole : goal.returns-clause-whole
returns-clause-whole c = subst (λ (p : PlainStore). AreWhole p.now) c.self.view_is
    (whole-frames c.self.inside.slots.now (take c.self.inside.live c.self.inside.regions.now))
