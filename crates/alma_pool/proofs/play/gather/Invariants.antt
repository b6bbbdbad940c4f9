use Rattle.std.proofs.Common.{◌≡◌, take}
use Rattle.std.specs.Prelude.{true}
use Rattle.alma_pool.specs.Inner.{players_at_start, codes_of}
use Rattle.alma_pool.proofs.Players.{pool_of}
use Rattle.alma_pool.proofs.play.gather.Given as goal

abbrev pub invariant-loop-code : goal.invariant-loop-code
invariant-loop-code l = l.pool ≡ pool_of (players_at_start (codes_of (take l.code-index l.verified)) l.input) true
