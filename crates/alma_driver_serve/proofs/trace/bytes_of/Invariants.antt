use Rattle.std.proofs.Common.{◌≡◌, map, take}
use Rattle.alma_driver_serve.proofs.trace.bytes_of.Given as goal

-- so many names have their bytes
abbrev pub invariant-loop-name : goal.invariant-loop-name
invariant-loop-name l = map (λ name. name.now) l.all.items ≡ map (λ name. name.now) (take l.name-index l.names)
