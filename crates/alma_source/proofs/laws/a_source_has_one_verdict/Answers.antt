use Rattle.alma_source.proofs.Verdicts.{one_verdict}
use Rattle.alma_source.proofs.laws.a_source_has_one_verdict.Goals as goal

pub returns : goal.returns
returns c = record { same = one_verdict }
