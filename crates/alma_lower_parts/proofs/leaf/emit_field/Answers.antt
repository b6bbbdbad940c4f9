use Rattle.std.proofs.Common.{◌∙◌, sym}
use Rattle.alma_lower_work.specs.Front.{around}
use Rattle.alma_lower_work.proofs.DesigForms.{field_put, field_part}
use Rattle.alma_lower_parts.proofs.leaf.emit_field.Goals as goal

pub returns : goal.returns
returns c = record {
  part = c.in_ok-to.ensures.slot ∙ sym (field_part (around c.args.scene.now) c.args.line _ _ _ _);
  puts = field_put (around c.args.scene.now) c.args.line _ _ _ _ _ _ _ c.in_ok-to.ensures.takes c.in_ok-to.ensures.slot
      c.in_ok-put.ensures.codes;
}
