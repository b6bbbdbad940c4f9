use Rattle.std.proofs.Common.{◌∙◌, sym}
use Rattle.alma_lower_work.specs.Front.{around}
use Rattle.alma_lower_parts.proofs.TurnedForms.{back_put, held_back_put}
use Rattle.alma_lower_parts.proofs.Said.{then_ok}
use Rattle.alma_lower_emit.proofs.guarded.emit_back.Goals as goal

pub returns-in-Some : goal.returns-in-Some
returns-in-Some g c = record {
  puts = λ slot is. then_ok c.put_held_back.result c.put_held_back.ensures
      (λ h. held_back_put (around c.args.scene.now) c.args.line _ _ _ _ _ _ _ _ _ _ _ (sym c.in-Some.is ∙ is) c.in_ok-first.ensures.puts
      c.in_ok-first.ensures.to c.in_ok-first.ensures.from h);
}

pub returns-in_ok-other-in-None : goal.returns-in_ok-other-in-None
returns-in_ok-other-in-None g c = record {
  puts = λ slot is. then_ok c.put_back.result c.put_back.ensures
      (λ h. back_put (around c.args.scene.now) c.args.line _ _ _ _ _ _ _ _ _ _ _ _ (sym c.in-None.is ∙ is) c.in_ok-first.ensures.puts
      c.in_ok-first.ensures.to c.in_ok-first.ensures.from c.in_ok-other-in-None.ensures.puts c.in_ok-other-in-None.ensures.value h);
}
