use Rattle.alma_source.proofs.RefusalLemmas.{one_refusal}
use Rattle.alma_source.proofs.laws.a_source_has_one_refusal.Goals as goal

pub returns : goal.returns
returns c = record { same = one_refusal }
