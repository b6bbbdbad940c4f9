use Rattle.std.proofs.Common.{◌≡◌, ◌+◌, ◌<◌, length, get_or, ap, sym, ◌∙◌, subst, refl, arith}
use Rattle.alma_code.specs.declared.cell.Cell.TheVariants as cell
use Rattle.alma_code.specs.Machine.{with_cell}
use Rattle.alma_code.specs.Picture.{frames_with_cell}
use Rattle.alma_machine_acts.specs.Rows.{state_of}
use Rattle.alma_machine_acts.proofs.Copying.{Laid, laid_more}
use Rattle.alma_machine_acts.proofs.copies.lay.Goals as goal

pub loop-k-preserved : goal.loop-k-preserved
loop-k-preserved g c =
    let cells = c.args.cells.now in
    let s = state_of g.M.MachineMemory.picture c.args.registers.now in
    let t = state_of g.M.MachineMemory.picture c.loop-k.registers in
    let k = c.loop-k.k in
    let f = c.args.to.frame in
    let i = c.args.to.slot in
    let lt : k < length cells = omega arith in
    let x = get_or cells k cell.Unknown in
    let more = laid_more cells s t f i k x lt refl (c.requires.contents k cell.Unknown lt) c.requires.to c.loop-k.invariant.laid in
    let u = g.M.MachineMemory.picture c.write-written.new.self in
    let now : u.now ≡ frames_with_cell t.now f (i + k) x = c.in-Ok.ensures.now in
    let held : u.held ≡ t.held = c.in-Ok.ensures.held in
    let same : record t { now = u.now; held = u.held } ≡ with_cell t f (i + k) x =
    ap (λ y. record t { now = y; held = u.held }) now ∙ ap (λ y. record t { now = frames_with_cell t.now f (i + k) x; held = y }) held in
    record {
      laid = subst (λ t. Laid cells s t f i (k + 1)) (sym same) more;
      room = omega (arith, c.loop-k.invariant.room, c.in-Ok.ensures.trail_room);
      past = c.in-Ok.ensures.past ∙ c.loop-k.invariant.past;
    }
