use Rattle.alma_memory.proofs.Back.{gives_back}
use Rattle.alma_memory.proofs.laws.a_failed_branch_leaves_no_trace.Goals as goal

pub returns : goal.returns
returns c = gives_back
