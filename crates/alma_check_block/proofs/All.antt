-- for a check of all lemmas
use Rattle.alma_check_block.proofs.Constants.{constant_fine}
use Rattle.alma_rules.proofs.TypeRows.{type_is}
use Rattle.alma_check_block.proofs.TypeTokens.{type_tokens}
use Rattle.alma_check_block.proofs.TypeSteps.{type_at}

pub ruleset everything = (constant_fine, type_is, type_tokens, type_at)
