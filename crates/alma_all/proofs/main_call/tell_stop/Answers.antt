use Rattle.alma_all.proofs.main_call.tell_stop.Goals as goal

pub returns-in-ModuleReturn : goal.returns-in-ModuleReturn
returns-in-ModuleReturn g c = rw c.in-ModuleReturn.is c.tell_line.ensures
