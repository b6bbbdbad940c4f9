use Rattle.std.proofs.Common.{◌≡◌, ◌+◌, length, ap, sym, ◌∙◌, subst, arith}
use Rattle.std.proofs.lemmas.List.FromFn.{length-map-range_with_len}
use Rattle.alma_code.specs.declared.cell.Cell.TheVariants as cell
use Rattle.alma_code.specs.Picture.{cell_at}
use Rattle.alma_machine_acts.specs.Rows.{AreNumbers}
use Rattle.alma_machine_acts.proofs.copies.copy.Goals as goal

pub lay-requires-clause-to : goal.lay-requires-clause-to
lay-requires-clause-to g c =
    let f = c.args.to.frame in
    let i = c.args.to.slot in
    let many : length c.as_slice.result.now ≡ c.args.count = ap length (c.as_slice.ensures.value ∙ c.in_ok-cells.ensures)
    ∙ length-map-range_with_len (λ k. cell_at (g.M.MachineMemory.picture c.args.registers.now.memory).now c.args.from.frame
    (c.args.from.slot + k) cell.Unknown) 0 c.args.count in
    subst (λ n. AreNumbers (g.M.MachineMemory.picture c.reserve.new.self).now f i n) (sym many)
    (subst (λ now. AreNumbers now f i c.args.count) (sym c.reserve.ensures.now) c.requires.to)

pub lay-requires-clause-room : goal.lay-requires-clause-room
lay-requires-clause-room g c =
    let many : length c.as_slice.result.now ≡ c.args.count = ap length (c.as_slice.ensures.value ∙ c.in_ok-cells.ensures)
    ∙ length-map-range_with_len (λ k. cell_at (g.M.MachineMemory.picture c.args.registers.now.memory).now c.args.from.frame
    (c.args.from.slot + k) cell.Unknown) 0 c.args.count in
    omega (arith, c.in_ok-reserve.ensures.trail_room)
