use Rattle.std.proofs.Common.{◌≡◌, ◌++◌, take}
use Rattle.std.specs.List.{flat_map}
use Rattle.alma_object.proofs.writing.push_pools.Given as goal

abbrev pub invariant-loop-routine : goal.invariant-loop-routine
invariant-loop-routine l = l.out.items ≡ l.initial.out.items ++ flat_map (λ r. r.name.items) (take l.routine-index l.code.routines.items)

abbrev pub invariant-loop-global : goal.invariant-loop-global
invariant-loop-global l = l.out.items ≡ l.initial.out.items ++ flat_map (λ r. r.name.items) (take l.global-index l.code.globals.items)

abbrev pub invariant-loop-text : goal.invariant-loop-text
invariant-loop-text l = l.out.items ≡ l.initial.out.items ++ flat_map (λ t. t.items) (take l.text-index l.code.texts.items)
