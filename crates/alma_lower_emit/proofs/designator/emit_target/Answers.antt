use Rattle.std.proofs.Common.{◌∙◌, sym}
use Rattle.alma_lower_work.specs.Front.{around}
use Rattle.alma_lower_parts.proofs.Said.{on_ok, said, through, own_target, own_stands, made_target, made_stands}
use Rattle.alma_lower_emit.proofs.designator.emit_target.Goals as goal

pub returns-in-Some : goal.returns-in-Some
returns-in-Some g c =
    record {
      stand = own_stands (around c.args.scene.now) c.args.line _ _ _ _ (sym c.in-Some.is ∙ c.in_ok-slot.ensures);
      puts = own_target
          (around c.args.scene.now) c.args.line _ _ _ (sym c.in-Some.is ∙ c.in_ok-slot.ensures);
    }

pub returns-in-None : goal.returns-in-None
returns-in-None g c =
    let none = sym c.in-None.is ∙ c.in_ok-slot.ensures in
    record {
      stand = through c.emit_held.result c.stand_at.result c.emit_held.ensures.place c.stand_at.ensures.done c.stand_at.ensures.stand
          (λ at stand place is. is ∙ made_stands (around c.args.scene.now) c.args.line _ _ _ at none place);
      puts = on_ok c.stand_at.result
          (λ ok. made_target (around c.args.scene.now) c.args.line _ _ _ none (said c.emit_held.result ok c.emit_held.ensures.puts))
          c.stand_at.ensures.done;
    }
