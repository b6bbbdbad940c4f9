use Rattle.std.proofs.Common.{◌≡◌, true, sym}
use Rattle.alma_code.specs.Carries.{number_at}
use Rattle.alma_memory_store.proofs.Stores.{number-cell, number-frame}
use Rattle.alma_memory.proofs.stack.lay_one.Goals as goal

pub write-requires-clause-live : goal.write-requires-clause-live
write-requires-clause-live c =
    let h : number_at c.args.store.now.now c.args.place.frame c.args.place.slot ≡ true = sym c.if-has_number.ensures.value in
    number-frame c.args.store.now.now c.args.place.frame c.args.place.slot h

pub write-requires-clause-slot_of : goal.write-requires-clause-slot_of
write-requires-clause-slot_of c =
    let h : number_at c.args.store.now.now c.args.place.frame c.args.place.slot ≡ true = sym c.if-has_number.ensures.value in
    number-cell c.args.store.now.now c.args.place.frame c.args.place.slot c.if-has_number.ensures.whole h
