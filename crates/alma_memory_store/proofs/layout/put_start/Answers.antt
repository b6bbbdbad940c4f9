use Rattle.std.proofs.Common.{◌≡◌, length, get_or, set, refl, ap, ◌∙◌, arith}
use Rattle.std.proofs.lemmas.List.{get_or_read, length-map, length-set}
use Rattle.std.specs.Prelude.{pos}
use Rattle.alma_code.specs.Layout.{kinds_of}
use Rattle.alma_code.specs.declared.cell.Cell.TheVariants.{Int}
use Rattle.alma_memory_store.specs.declared.store.Slot.{Slot}
use Rattle.alma_memory_store.specs.Regions.{blank_slot, cells_in, kinds_in, no_slot}
use Rattle.alma_memory_store.proofs.Layouts.{head-kinds, kinds-blank, cells-blank, kinds-set, cells-set}
use Rattle.alma_memory_store.proofs.layout.put_start.Goals as goal

pub index-requires : goal.index-requires
index-requires g c =
    let h = g.H.Head.head c.args.head.now in
    let kinds = head-kinds h (kinds_of 0 h.runs) c.requires.head refl in
    let blanks = length-map (kinds_of 0 h.runs) blank_slot in
    let all = ap length c.in_ok-put_blanks.ensures.slots in
    omega (arith, kinds, blanks, all, c.requires.some, c.put_blanks.new.slots.ok.0)

pub index_mut-requires : goal.index_mut-requires
index_mut-requires g c =
    let h = g.H.Head.head c.args.head.now in
    let kinds = head-kinds h (kinds_of 0 h.runs) c.requires.head refl in
    let blanks = length-map (kinds_of 0 h.runs) blank_slot in
    let all = ap length c.in_ok-put_blanks.ensures.slots in
    omega (arith, kinds, blanks, all, c.requires.some, c.put_blanks.new.slots.ok.0)

pub returns-clause-kinds : goal.returns-clause-kinds
returns-clause-kinds g c =
    let h = g.H.Head.head c.args.head.now in
    let slots = c.put_blanks.new.slots.items in
    let x : Slot = record { kind = c.index.result.now.kind; cell = Int (pos 0) } in
    let kinds = head-kinds h (kinds_of 0 h.runs) c.requires.head refl in
    let blanks = length-map (kinds_of 0 h.runs) blank_slot in
    let all = ap length c.in_ok-put_blanks.ensures.slots in
    let own : x.kind ≡ (get_or slots 0 no_slot).kind =
    ap (λ (s : Slot). s.kind) (get_or_read slots 0 c.index.result.now (omega (arith, kinds, blanks, all, c.requires.some)) c.index.ensures
    no_slot) in
    kinds-set slots 0 x own ∙ (ap kinds_in c.in_ok-put_blanks.ensures.slots ∙ kinds-blank (kinds_of 0 h.runs))

pub returns-clause-cells : goal.returns-clause-cells
returns-clause-cells g c =
    let h = g.H.Head.head c.args.head.now in
    let slots = c.put_blanks.new.slots.items in
    let x : Slot = record { kind = c.index.result.now.kind; cell = Int (pos 0) } in
    cells-set slots 0 x ∙ ap (λ v. set v 0 (Int (pos 0))) (ap cells_in c.in_ok-put_blanks.ensures.slots ∙ cells-blank (kinds_of 0 h.runs))

pub returns-clause-few : goal.returns-clause-few
returns-clause-few g c =
    let h = g.H.Head.head c.args.head.now in
    let slots = c.put_blanks.new.slots.items in
    let x : Slot = record { kind = c.index.result.now.kind; cell = Int (pos 0) } in
    let kinds = head-kinds h (kinds_of 0 h.runs) c.requires.head refl in
    let blanks = length-map (kinds_of 0 h.runs) blank_slot in
    let all = ap length c.in_ok-put_blanks.ensures.slots in
    let same = length-set slots 0 x in
    omega (arith, kinds, blanks, all, same, c.in_ok-put_blanks.ensures.few)
