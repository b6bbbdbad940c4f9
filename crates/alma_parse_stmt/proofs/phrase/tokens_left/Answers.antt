use Rattle.std.proofs.Common.{sym}
use lib.ListN.{length-map}
use Rattle.alma_parse_stmt.proofs.phrase.tokens_left.Goals as goal

pub returns : goal.returns
returns c = record { counted = sym (length-map c.args.at.rest.now (λ t. t.kind)) }
