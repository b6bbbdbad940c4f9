use Rattle.alma_code.specs.declared.cell.Cell.TheVariants as cell
use Rattle.alma_code.specs.Picture.{last_frame}
use Rattle.alma_machine_acts.specs.Rows.{width}
use Rattle.alma_machine_acts.proofs.Words.{place_read, reads_place, reads_unset}
use Rattle.alma_machine_acts.proofs.registers.Registers.place.Goals as goal

pub returns-in-Place : goal.returns-in-Place
returns-in-Place g c =
    let now = (g.M.MachineMemory.picture c.args.self.now.memory).now in
    let n = c.args.slot in
    let p = c.in-Place.place in (
      place_read now (last_frame now).cells (width now n) n (cell.Place p) c.in-Place.ensures c.requires.content,
      λ s k same. reads_place now n p s k c.in-Place.ensures same,
    )

pub returns-in-Unset : goal.returns-in-Unset
returns-in-Unset g c s k same = reads_unset (g.M.MachineMemory.picture c.args.self.now.memory).now c.args.slot s k c.in-Unset.ensures same
