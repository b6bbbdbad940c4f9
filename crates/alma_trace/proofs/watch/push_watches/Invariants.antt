use Rattle.std.proofs.Common.{◌≡◌, ◌++◌, ◌∷◌, take, flat_map}
use Rattle.alma_trace.specs.Places.{watch_word}
use Rattle.alma_trace.proofs.watch.push_watches.Given as goal

-- so many watches are there
abbrev pub invariant-loop-watch : goal.invariant-loop-watch
invariant-loop-watch l =
    l.line.items ≡ l.initial.line.items ++ flat_map (λ watch. 32 ∷ watch_word l.memory.now watch) (take l.watch-index l.watches)
