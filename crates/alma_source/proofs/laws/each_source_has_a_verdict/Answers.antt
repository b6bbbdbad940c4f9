use Rattle.alma_source.proofs.Verdicts.{some_verdict}
use Rattle.alma_source.proofs.laws.each_source_has_a_verdict.Goals as goal

pub returns : goal.returns
returns c = record { some = some_verdict }
