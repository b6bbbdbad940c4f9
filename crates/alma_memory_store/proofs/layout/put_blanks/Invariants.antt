use Rattle.std.proofs.Common.{◌≡◌, ◌≤◌, ◌++◌, drop, length, map, vec_capacity}
use Rattle.alma_code.specs.Layout.{kinds_of, RunsRise}
use Rattle.alma_memory_store.specs.Regions.{blank_slot}
use Rattle.alma_memory_store.proofs.layout.put_blanks.Given as goal

abbrev pub invariant-loop-i : goal.invariant-loop-i
invariant-loop-i g l =
    (l.slots.items ++ map blank_slot (kinds_of (length l.slots.items) (drop l.i (g.H.Head.head l.head).runs)) ≡ map blank_slot
    (kinds_of 0 (g.H.Head.head l.head).runs))
    × RunsRise (length l.slots.items) (drop l.i (g.H.Head.head l.head).runs) (g.H.Head.head l.head).slots
    × ((g.H.Head.head l.head).slots ≤ vec_capacity l.slots)
