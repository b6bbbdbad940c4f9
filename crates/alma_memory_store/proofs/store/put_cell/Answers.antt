use Rattle.std.proofs.Common.{◌≡◌, get_or, set, ap, sym, ◌∙◌}
use Rattle.std.proofs.lemmas.Option.{get_or_from_slice_get}
use Rattle.alma_memory_store.specs.declared.store.Slot.{Slot}
use Rattle.alma_memory_store.specs.Regions.{no_slot}
use Rattle.alma_memory_store.proofs.store.put_cell.Goals as goal

pub returns-clause-now : goal.returns-clause-now
returns-clause-now c =
    let slots = c.args.slots.now.now in
    let here : get_or slots c.args.at no_slot ≡ c.get-kind.result =
    get_or_from_slice_get slots c.args.at c.get-kind.result no_slot c.get-kind.ensures in
    c.put.ensures.now ∙ ap (λ (s : Slot). set slots c.args.at (record { kind = s.kind; cell = c.args.cell })) (sym here)
