use Rattle.alma_check_type.proofs.FieldSteps.{knows_empty}
use Rattle.alma_check_type.proofs.field.no_fields.Goals as goal

pub returns-clause-names : goal.returns-clause-names
returns-clause-names c tokens = knows_empty tokens _ c.new.ensures.len
