use Rattle.std.proofs.Common.{◌++◌, length, drop, refl, ap, ◌∙◌, arith}
use Rattle.std.proofs.lemmas.List.{length-map}
use Rattle.alma_code.specs.Layout.{args_cells, kinds_of}
use Rattle.alma_memory_store.specs.declared.store.Slot.{Slot}
use Rattle.alma_memory_store.specs.Regions.{blank_slot, cells_in, kinds_in}
use Rattle.alma_memory_store.proofs.Layouts.{args-fit, head-kinds, kinds-blank, cells-blank}
use Rattle.alma_memory_store.proofs.layout.put_call.Goals as goal

pub put_cells-requires : goal.put_cells-requires
put_cells-requires g c =
    let h = g.H.Head.head c.args.head.now in
    let fit = args-fit (g.F.LiveFrames.live c.args.frames.now) h c.args.args.now c.requires.head c.requires.whole c.requires.args in
    let args = ap length (c.as_slice.ensures.value ∙ c.in_ok-push_args.ensures) in
    let blanks = length-map (kinds_of 0 h.runs) blank_slot in
    let all = ap length c.in_ok-put_blanks.ensures.slots in
    omega (arith, fit, args, blanks, all)

pub returns-clause-kinds : goal.returns-clause-kinds
returns-clause-kinds g c =
    let h = g.H.Head.head c.args.head.now in
    c.put_cells.ensures.kinds ∙ (ap kinds_in c.in_ok-put_blanks.ensures.slots ∙ kinds-blank (kinds_of 0 h.runs))

pub returns-clause-cells : goal.returns-clause-cells
returns-clause-cells g c =
    let h = g.H.Head.head c.args.head.now in
    let args = c.as_slice.ensures.value ∙ c.in_ok-push_args.ensures in
    let blanks = ap cells_in c.in_ok-put_blanks.ensures.slots ∙ cells-blank (kinds_of 0 h.runs) in
    c.put_cells.ensures.cells ∙ (ap (λ v. v ++ drop (length v) (cells_in c.put_blanks.new.slots.items)) args
    ∙ ap (λ v. args_cells (g.F.LiveFrames.live c.args.frames.now) h.params c.args.args.now (length h.params)
    ++ drop (length (args_cells (g.F.LiveFrames.live c.args.frames.now) h.params c.args.args.now (length h.params))) v) blanks)

pub returns-clause-few : goal.returns-clause-few
returns-clause-few g c =
    let h = g.H.Head.head c.args.head.now in
    let kinds = head-kinds h (kinds_of 0 h.runs) c.requires.head refl in
    let blanks = length-map (kinds_of 0 h.runs) blank_slot in
    let all = ap length c.in_ok-put_blanks.ensures.slots in
    let same = ap length c.put_cells.ensures.kinds in
    let new = length-map c.put_cells.new.slots.items (λ (s : Slot). s.kind) in
    let old = length-map c.put_blanks.new.slots.items (λ (s : Slot). s.kind) in
    omega (arith, kinds, blanks, all, same, new, old, c.in_ok-put_blanks.ensures.few)
