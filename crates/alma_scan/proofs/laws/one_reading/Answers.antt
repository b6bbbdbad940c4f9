use Rattle.std.proofs.Common.{length}
use Rattle.alma_scan.proofs.Once.{tokens_once, faults_once, never_both}
use Rattle.alma_scan.proofs.Always.{always}
use Rattle.alma_scan.proofs.laws.one_reading.Goals as goal

pub returns-clause-tokens : goal.returns-clause-tokens
returns-clause-tokens c = λ source tokens others h i. tokens_once (length source) source tokens others h i

pub returns-clause-fault : goal.returns-clause-fault
returns-clause-fault c = λ source fault other at place h i. faults_once (length source) source h.0 i.0 fault other at place h.1 i.1

pub returns-clause-never_both : goal.returns-clause-never_both
returns-clause-never_both c = λ source tokens fault at h i. never_both (length source) source tokens i.0 fault at h i.1

pub returns-clause-always : goal.returns-clause-always
returns-clause-always c = always
