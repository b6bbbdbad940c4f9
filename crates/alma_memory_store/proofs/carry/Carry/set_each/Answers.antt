use Rattle.std.proofs.Common.{◌≡◌, ◌++◌, ◌∷◌, [], arith}
use Rattle.std.proofs.lemmas.Grind.{common_steps}
use Rattle.alma_memory_store.proofs.Rising.{set-more}
use Rattle.alma_memory_store.proofs.carry.Carry.set_each.Goals as goal

pub loop-place-preserved : goal.loop-place-preserved
loop-place-preserved c =
    let pushed : c.push.new.self.items ≡ c.loop-place.had.items ++ c.in_ok-old.old ∷ [] = grind (arith, common_steps) in (
      set-more c.args.changes.now c.loop-place.place-index c.args.self.now c.loop-place.self c.set.new.self c.loop-place.had.items
          c.push.new.self.items c.in_ok-old.old
          c.loop-place.invariant.0 (omega arith) c.in_ok-old.ensures.carry c.in_ok-old.ensures.had pushed,
      omega (arith, c.in-Ok.ensures.len, c.loop-place.invariant.1),
      omega (arith, c.in-Ok.ensures.capacity, c.loop-place.invariant.2),
    )
