use Rattle.std.proofs.Common.{◌≡◌, ◌≤◌, length, vec_len, vec_capacity}
use Rattle.alma_memory_store.proofs.Rising.{IsSet}
use Rattle.alma_memory_store.proofs.carry.Carry.set_each.Given as goal

abbrev pub invariant-loop-place : goal.invariant-loop-place
invariant-loop-place l =
    IsSet l.changes l.place-index l.fn.self l.self l.had.items × (vec_len l.had ≡ l.place-index) × (length l.changes ≤ vec_capacity l.had)
