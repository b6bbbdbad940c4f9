use Rattle.std.proofs.Common.{length}
use Rattle.alma_link.proofs.serve.+serve_files.Given as goal

abbrev pub decreases-serve_files : goal.decreases-serve_files
decreases-serve_files g l = length l.names.now
