use Rattle.alma_link.proofs.main_call.tell_join.Goals as goal

pub returns-in-Missing : goal.returns-in-Missing
returns-in-Missing g c = rw c.in-Missing.is c.tell_import.ensures

pub returns-in-Twice : goal.returns-in-Twice
returns-in-Twice g c = rw c.in-Twice.is c.tell_import-in-Twice.ensures

pub returns-in-HeadDiffers : goal.returns-in-HeadDiffers
returns-in-HeadDiffers g c = rw c.in-HeadDiffers.is c.tell_import-in-HeadDiffers.ensures

pub returns-in-TooLarge : goal.returns-in-TooLarge
returns-in-TooLarge g c = rw c.in-TooLarge.is (rw c.from.ensures at c.tell_number.ensures)

pub returns-in-Memory : goal.returns-in-Memory
returns-in-Memory g c = rw c.in-Memory.is c.refuse.ensures
