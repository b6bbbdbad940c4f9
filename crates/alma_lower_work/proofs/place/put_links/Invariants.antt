use Rattle.std.proofs.Common.{◌≡◌, ◌+◌}
use Rattle.alma_ir.specs.Checked.{outer_at}
use Rattle.alma_lower_templates.specs.LineInstr.{own}
use Rattle.alma_lower_templates.specs.Pieces.{link_code}
use Rattle.alma_lower_templates.specs.Slots.{chain_slots}
use Rattle.alma_lower_work.specs.Front.{around, front, Adds}
use Rattle.alma_lower_work.proofs.place.put_links.Given as goal

abbrev pub invariant-loop : goal.invariant-loop
invariant-loop l = record {
  routine : l.routine ≡ outer_at (around l.scene).program (around l.scene).routine l.counter;
  link : l.link ≡ (front l.fn.work).next + l.counter;
  puts : Adds (front l.fn.work) (front l.work) (λ at lo ls. own l.line (link_code lo l.counter))
      (λ ls. chain_slots (around l.scene).program (around l.scene).routine l.counter) (λ ls. ls);
}
