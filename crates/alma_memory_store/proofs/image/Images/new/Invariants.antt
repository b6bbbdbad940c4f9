use Rattle.std.proofs.Common.{◌≡◌, length}
use Rattle.alma_memory_store.proofs.image.Images.new.Given as goal

abbrev pub invariant-loop : goal.invariant-loop
invariant-loop l = length l.images.items ≡ l.counter
