use Rattle.std.proofs.Common.{◌≡◌, ◌<◌, get_or, set, length, ap, sym, ◌∙◌, arith}
use Rattle.std.proofs.lemmas.List.{get_or_read, length-map}
use Rattle.alma_code.specs.declared.cell.Cell.TheVariants.{Unknown}
use Rattle.alma_memory_store.specs.declared.store.Slot.{Slot}
use Rattle.alma_memory_store.specs.Regions.{cells_in, no_slot}
use Rattle.alma_memory_store.proofs.Layouts.{kinds-set, cells-set, over-more}
use Rattle.alma_memory_store.proofs.layout.put_cells.Goals as goal

pub loop-i-preserved : goal.loop-i-preserved
loop-i-preserved c =
    let slots = c.loop-i.slots.items in
    let first = c.args.slots.now.items in
    let cells = c.args.cells.now in
    let i = c.loop-i.i in
    let x : Slot = record { kind = c.index.result.now.kind; cell = get_or cells i Unknown } in
    let wide : length slots ≡ length first =
    sym (length-map slots (λ (s : Slot). s.kind)) ∙ (ap length c.loop-i.invariant.0 ∙ length-map first (λ (s : Slot). s.kind)) in
    let l : i < length cells = omega arith in
    let m : i < length first = omega (arith, l, c.requires) in
    let n : i < length (cells_in first) = rw (length-map first (λ (s : Slot). s.cell)) m in
    let own : x.kind ≡ (get_or slots i no_slot).kind =
    ap (λ (s : Slot). s.kind) (get_or_read slots i c.index.result.now (omega (arith, wide, m)) c.index.ensures no_slot) in (
      kinds-set slots i x own ∙ c.loop-i.invariant.0,
      cells-set slots i x ∙ (ap (λ v. set v i x.cell) c.loop-i.invariant.1 ∙ over-more cells (cells_in first) i Unknown l n),
    )
