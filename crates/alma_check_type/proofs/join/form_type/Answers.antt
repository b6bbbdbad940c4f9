use Rattle.alma_check_type.specs.Told.{fault_of}
use Rattle.alma_check_type.proofs.ShapeSteps.{type_formed}
use Rattle.alma_check_type.proofs.join.form_type.Goals as goal

pub returns : goal.returns
returns c = type_formed c.args.node (fault_of c.args.fault) c.args.reader.now c.args.indices.now _ _ _ _ c.in_ok-formed.ensures
    (c.sized.ensures _)
