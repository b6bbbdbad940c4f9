use Rattle.alma_memory_store.proofs.Rising.{set-back}
use Rattle.std.proofs.Common.{vec_len}
use Rattle.alma_memory_store.proofs.carry.Carry.set_all.Goals as goal

pub returns-in-Err-clause-carry : goal.returns-in-Err-clause-carry
returns-in-Err-clause-carry c =
    set-back c.args.changes.now (vec_len c.set_each.new.had) c.args.self.now c.set_each.new.self c.put_all_back.new.self
    c.set_each.new.had.items
    c.set_each.ensures.rising (record { carry = c.set_each.ensures.carry; noted = c.set_each.ensures.had }) c.put_all_back.ensures
