use Rattle.std.proofs.Common.{◌≡◌, [], drop}
use Rattle.alma_pool.specs.Due.{open_objects}
use Rattle.alma_pool.specs.Inner.{all_bytes, codes_of}
use Rattle.alma_pool.proofs.open.open_all.Given as goal

abbrev pub invariant-loop-bytes : goal.invariant-loop-bytes
invariant-loop-bytes l = open_objects [] (all_bytes l.objects) ≡ open_objects (codes_of l.verified.items)
    (all_bytes (drop l.bytes-index l.objects))
