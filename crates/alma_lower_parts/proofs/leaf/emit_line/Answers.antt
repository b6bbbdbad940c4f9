use Rattle.alma_lower_work.specs.Front.{around}
use Rattle.alma_lower_parts.proofs.Said.{on_ok}
use Rattle.alma_lower_parts.proofs.StmtForms.{line_put}
use Rattle.alma_lower_parts.proofs.leaf.emit_line.Goals as goal

pub returns : goal.returns
returns c = record { puts = on_ok c.add.result (line_put (around c.args.scene.now) c.args.line _ _) c.add.ensures }
