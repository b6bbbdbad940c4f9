use Rattle.alma_lower_work.specs.Front.{around}
use Rattle.alma_lower_parts.proofs.StmtForms.{copy_put}
use Rattle.alma_lower_parts.proofs.Said.{on_ok}
use Rattle.alma_lower_emit.proofs.statement.emit_copy.Goals as goal

pub returns : goal.returns
returns g c = record {
  puts = on_ok c.add.result
      (copy_put (around c.args.scene.now) c.args.line _ _ _ _ _ _ _ _ c.in_ok-to.ensures.puts c.in_ok-to.ensures.place
      c.in_ok-from.ensures.puts c.in_ok-from.ensures.place) c.add.ensures;
}
