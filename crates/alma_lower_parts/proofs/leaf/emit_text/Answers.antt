use Rattle.alma_lower_work.specs.Front.{around}
use Rattle.alma_lower_parts.proofs.Said.{on_ok}
use Rattle.alma_lower_parts.proofs.StmtForms.{text_put}
use Rattle.alma_lower_parts.proofs.leaf.emit_text.Goals as goal

pub returns : goal.returns
returns c = record { puts = on_ok c.add.result (text_put (around c.args.scene.now) c.args.line _ _ _ _ c.in_ok-text.ensures) c.add.ensures }
