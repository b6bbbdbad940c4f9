use Rattle.std.proofs.Common.{length}
use Rattle.alma_pool.proofs.serve.+serve_objects.Given as goal

abbrev pub decreases-serve_objects : goal.decreases-serve_objects
decreases-serve_objects g l = length l.names.now
