use Rattle.std.proofs.Common.{◌∙◌, [], ◌∷◌, refl, sym, add-zero}
use Rattle.alma_code.specs.declared.cell.SlotKind.TheVariants as slot
use Rattle.alma_code.specs.declared.instr.Instr.TheVariants as I
use Rattle.alma_lower_work.specs.Front.{front}
use Rattle.alma_lower_parts.proofs.Beginning.{both_ok, hole_among}
use Rattle.alma_lower_parts.proofs.choice.begin_each.Goals as goal

pub returns-clause-holes : goal.returns-clause-holes
unfolding front
returns-clause-holes c =
    both_ok c.begin_each.result (λ r h j. hole_among (front c.args.work.now)
    (front (record { emit = c.begin_each.new.self; lines = c.args.work.now.lines; handed = c.args.work.now.handed })) c.args.line r.1
    (λ lo. []) (λ lo. I.Mark lo ∷ []) (λ lo. I.Overlay c.args.mark 0) (slot.Mark ∷ [])
    j.instrs j.kinds j.next refl refl (h ∙ sym (add-zero _)) refl) c.begin_each.ensures.overlay c.begin_each.ensures.puts
