use Rattle.std.proofs.Common.{[], ◌∷◌, refl}
use Rattle.alma_base.specs.declared.fault.CheckFault.TheVariants as fault
use Rattle.alma_rules.specs.Judgement.{broken_at}
use Rattle.alma_rules.specs.View.{view_name}
use Rattle.alma_check_block.proofs.Frames.{refused}
use Rattle.alma_check_block.proofs.frame.Frame.refuse.Goals as goal

pub returns : goal.returns
returns c s t f h =
    refused s t c.add_fault.new.self f (view_name c.args.name.now)
    (c.add_fault.ensures s f (broken_at c.args.name.now.node (fault.TooLarge ∷ [])) h refl)
