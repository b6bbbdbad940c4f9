use Rattle.std.proofs.Common.{◌≡◌, ◌++◌, ◌∷◌, ◌+◌, [], length, get_or, take, sym, ap, ◌∙◌, arith}
use Rattle.std.proofs.lemmas.List.{length_push, map-append, take_more}
use Rattle.std.proofs.lemmas.Grind.{common_steps}
use Rattle.alma_memory_store.specs.declared.store.Slot.{Slot}
use Rattle.alma_memory_store.specs.Regions.{cells_in, kinds_in, no_slot}
use Rattle.alma_back_tape.proofs.layout.parts_of.Goals as goal

pub loop-i-preserved : goal.loop-i-preserved
loop-i-preserved c =
    let slots = c.args.slots.now in
    let i = c.loop-i.i in
    let x : Slot = get_or slots i no_slot in
    let first : c.push.new.self.items ≡ c.loop-i.kinds.items ++ x.kind ∷ [] = grind (arith, common_steps) in
    let second : c.push-in-loop-i.new.self.items ≡ c.loop-i.cells.items ++ x.cell ∷ [] = grind (arith, common_steps) in
    let split : take (i + 1) slots ≡ take i slots ++ x ∷ [] = take_more slots i no_slot (omega arith) in (
      first ∙ (ap (λ v. v ++ x.kind ∷ []) c.loop-i.invariant.0
          ∙ (sym (map-append (λ (s : Slot). s.kind) (take i slots) (x ∷ [])) ∙ ap kinds_in (sym split))),
      second ∙ (ap (λ v. v ++ x.cell ∷ []) c.loop-i.invariant.1
          ∙ (sym (map-append (λ (s : Slot). s.cell) (take i slots) (x ∷ [])) ∙ ap cells_in (sym split))),
      omega (arith, ap length first, length_push c.loop-i.kinds.items x.kind, c.loop-i.invariant.2),
      omega (arith, ap length second, length_push c.loop-i.cells.items x.cell, c.loop-i.invariant.3),
    )
