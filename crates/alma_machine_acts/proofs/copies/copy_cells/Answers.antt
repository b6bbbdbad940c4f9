use Rattle.std.proofs.Common.{sym, ◌∙◌, refl}
use Rattle.alma_code.specs.Machine.{place, copies_cells}
use Rattle.alma_machine_acts.specs.Rows.{state_of}
use Rattle.alma_machine_acts.proofs.Words.{acts_is}
use Rattle.alma_machine_acts.proofs.copies.copy_cells.Goals as goal

pub returns : goal.returns
returns g c =
    let s = state_of g.M.MachineMemory.picture c.args.registers.now in
    let to = c.in-Ok.place in
    let from = c.in-Ok-place.place in
    acts_is _ _ _ _ c.copy.ensures
    (sym (c.in-Ok.ensures.1 s (λ p. place s c.args.from (λ q. copies_cells p.len s.now s p.frame p.slot q.frame q.slot)) refl
    ∙ c.in-Ok-place.ensures.1 s (λ q. copies_cells to.len s.now s to.frame to.slot q.frame q.slot) refl))
