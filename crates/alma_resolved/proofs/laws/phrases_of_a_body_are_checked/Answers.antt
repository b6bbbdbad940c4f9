use Rattle.alma_resolved.proofs.Checks.{body_keeps}
use Rattle.alma_resolved.proofs.laws.phrases_of_a_body_are_checked.Goals as goal

-- src/laws.rt:24:1
pub returns : goal.returns
returns c = body_keeps
