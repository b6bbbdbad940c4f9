use Rattle.std.proofs.Common.{◌∙◌, sym}
use Rattle.alma_lower_work.specs.Front.{around}
use Rattle.alma_lower_parts.proofs.StmtForms.{assign_put, straight_put}
use Rattle.alma_lower_parts.proofs.Said.{then_ok}
use Rattle.alma_lower_emit.proofs.statement.emit_assign.Goals as goal

pub returns-in-Some : goal.returns-in-Some
returns-in-Some g c =
    record {
      puts = straight_put (around c.args.scene.now) c.args.line _ _ _ _ _ _ _ _
          (sym c.in-Some.is ∙ c.in_ok-to.ensures) c.in_ok-stand.ensures.puts c.in_ok-number.ensures.puts c.redirect.ensures;
    }

pub returns-in-None : goal.returns-in-None
returns-in-None g c =
    record {
      puts = then_ok c.put_set.result c.put_set.ensures
          (λ two. assign_put (around c.args.scene.now) c.args.line _ _ _ _ _ _ _ _ _ _
          (sym c.in-None.is ∙ c.in_ok-to.ensures) c.in_ok-stand.ensures.puts c.in_ok-stand.ensures.stand c.in_ok-number.ensures.puts
          c.in_ok-number.ensures.value two.first two.second);
    }
