use Rattle.std.proofs.Common.{◌≡◌, ◌≤◌, take}
use Rattle.std.specs.Prelude.{All}
use Rattle.alma_pool.specs.Due.{turns_in}
use Rattle.alma_pool.specs.Pool.{after_turns}
use Rattle.alma_pool.proofs.turns.play_all.Given as goal

-- the turns of the bytes so far were made, and no program made more steps than there were bytes
abbrev pub invariant-loop-byte : goal.invariant-loop-byte
invariant-loop-byte l = record {
  made : l.pool ≡ after_turns l.fn.pool (turns_in (take l.byte-index l.turns));
  few : All (λ p. p.state.steps ≤ l.byte-index) l.pool.programs;
}
