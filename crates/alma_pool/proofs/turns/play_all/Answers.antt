use Rattle.std.proofs.Common.{length, take}
use Rattle.alma_pool.specs.Due.{turns_in}
use Rattle.alma_pool.proofs.Playing.{still_whole, good_turn, few_enough, turns_more}
use Rattle.alma_pool.proofs.turns.play_all.Goals as goal

pub take_turn-requires-clause-whole : goal.take_turn-requires-clause-whole
take_turn-requires-clause-whole c =
    still_whole c.args.pool.now c.loop-byte.pool (turns_in (take c.loop-byte.byte-index c.args.turns.now)) c.loop-byte.invariant.made
    c.requires.whole

pub take_turn-requires-clause-good : goal.take_turn-requires-clause-good
take_turn-requires-clause-good c =
    good_turn c.args.pool.now c.loop-byte.pool c.args.turns.now (turns_in (take c.loop-byte.byte-index c.args.turns.now))
    c.loop-byte.byte-index _
    c.loop-byte.invariant.made c.requires.good c.loop-byte-test.true

pub take_turn-requires-clause-few : goal.take_turn-requires-clause-few
take_turn-requires-clause-few c =
    few_enough c.loop-byte.pool.programs c.loop-byte.byte-index (length c.args.turns.now) c.loop-byte-test.true c.requires.short
    c.loop-byte.invariant.few

pub loop-byte-preserved : goal.loop-byte-preserved
loop-byte-preserved c = record {
  made = turns_more c.args.pool.now c.loop-byte.pool c.take_turn.new.pool c.args.turns.now c.loop-byte.byte-index _ c.loop-byte-test.true
      c.loop-byte.invariant.made
      c.in_ok-take_turn.ensures.turn;
  few = c.in_ok-take_turn.ensures.few c.loop-byte.byte-index c.loop-byte.invariant.few;
}
