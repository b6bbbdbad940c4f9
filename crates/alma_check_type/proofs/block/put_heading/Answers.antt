use Rattle.std.specs.Prelude.{option_map}
use Rattle.std.proofs.lemmas.List.{map-set}
use Rattle.alma_check_rules.specs.Views.{heading_view}
use Rattle.alma_check_type.proofs.block.put_heading.Goals as goal

pub returns-then-routine-len : goal.returns-then-routine-len
returns-then-routine-len c = map-set (λ h. option_map heading_view h) c.args.headings.now.items c.args.routine c.args.heading
