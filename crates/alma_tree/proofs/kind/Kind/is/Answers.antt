use Rattle.std.proofs.Common.{refl}
use Rattle.alma_tree.proofs.Codes.{tag_is_code}
use Rattle.alma_tree.proofs.kind.Kind.is.Goals as goal

pub returns : goal.returns
returns c = record { same_code = rw (tag_is_code c.args.self, tag_is_code c.args.other) refl }
