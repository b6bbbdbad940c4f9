use Rattle.alma_machine_acts.proofs.registers.Registers.outer_whole.Goals as goal

pub held-requires : goal.held-requires
held-requires g c = c.in_ok-frame.ensures.0 c.args.slot c.requires.leads
