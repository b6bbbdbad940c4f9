use Rattle.std.proofs.Common.{arith}
use Rattle.std.proofs.lemmas.Bool.Decides.{nat_tests}
use Rattle.alma_memory_store.proofs.Blanks.{image-later}
use Rattle.alma_memory_store.proofs.image.prepare.Goals as goal

pub returns-then-has_runs-clause-image : goal.returns-then-has_runs-clause-image
returns-then-has_runs-clause-image g c =
    image-later c.args.runs.now.items c.args.slots.now.items c.args.written c.args.count c.requires.image (grind (arith, nat_tests))
