use Rattle.std.proofs.Common.{length}
use Rattle.alma_plan.proofs.words.+bad_file.Given as goal

abbrev pub decreases-bad_file : goal.decreases-bad_file
decreases-bad_file l = length l.words.now
