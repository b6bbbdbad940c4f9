use Rattle.std.proofs.Common.{sym, arith}
use Rattle.std.proofs.lemmas.List.{get_or_past}
use Rattle.alma_names.specs.Shapes.{cell_counts}
use Rattle.alma_names.proofs.Tables.{counts_len}
use Rattle.alma_check_rules.proofs.env.Env.cells.Goals as goal

pub returns-else-shape-len : goal.returns-else-shape-len
returns-else-shape-len c =
    sym (get_or_past (cell_counts c.args.self.now.shapes) c.args.shape 0
    (omega (arith, counts_len c.args.self.now.shapes, c.if-shape-len.false, c.len.ensures)))
