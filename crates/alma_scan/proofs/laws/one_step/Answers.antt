use Rattle.std.proofs.Common.{[]}
use Rattle.alma_scan.proofs.Once.{next_once, faults_once, token_or_end, token_or_fault, never_both}
use Rattle.alma_scan.proofs.laws.one_step.Goals as goal

pub returns-clause-token : goal.returns-clause-token
returns-clause-token c = next_once

pub returns-clause-fault : goal.returns-clause-fault
returns-clause-fault c = λ size bytes fault other at place h i. faults_once size bytes [] [] fault other at place h i

pub returns-clause-token_or_end : goal.returns-clause-token_or_end
returns-clause-token_or_end c = token_or_end

pub returns-clause-token_or_fault : goal.returns-clause-token_or_fault
returns-clause-token_or_fault c = token_or_fault

pub returns-clause-end_or_fault : goal.returns-clause-end_or_fault
returns-clause-end_or_fault c = λ size bytes fault at g h. never_both size bytes [] [] fault at g h
