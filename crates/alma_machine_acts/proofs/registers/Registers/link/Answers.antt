use Rattle.alma_machine_acts.proofs.Held.{link_read}
use Rattle.alma_machine_acts.proofs.registers.Registers.link.Goals as goal

pub returns-in-Place : goal.returns-in-Place
returns-in-Place g c = (
  λ m leads. leads c.in-Place.place c.in-Place.ensures,
  λ s k same. link_read (g.M.MachineMemory.picture c.args.self.now.memory).now c.args.slot c.in-Place.place s k c.in-Place.ensures same,
)
