use Rattle.std.proofs.Common.{◌≡◌, flat_map, take}
use Rattle.alma_plan.proofs.writing.gather.Given as goal

-- so many parts are gathered
abbrev pub invariant-loop-part : goal.invariant-loop-part
invariant-loop-part l = l.line.items ≡ flat_map (λ part. part.now) (take l.part-index l.parts)
