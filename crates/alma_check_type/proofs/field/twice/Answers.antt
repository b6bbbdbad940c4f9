use Rattle.std.proofs.Common.{None, ap}
use Rattle.alma_check_type.proofs.FieldSteps.{a_fields}
use Rattle.alma_check_type.proofs.field.twice.Goals as goal

pub returns-clause-told : goal.returns-clause-told
returns-clause-told c tokens shape = ap (λ f. a_fields f None) c.earlier.ensures
