use Rattle.std.proofs.Common.{◌≡◌, ◌<◌, ◌∙◌, sym, ap, subst, arith, length}
use Rattle.std.specs.Prelude.{OnOk}
use Rattle.alma_pool.specs.Due.{turn_in}
use Rattle.alma_pool.specs.Pool.{PoolView, no_program, after_turn, after_turns}
use Rattle.alma_pool.proofs.Playing.{letter_fits, letter_turn, feed_turn, few_still, few_result}
use Rattle.alma_pool.proofs.turns.take_turn.Goals as goal

pub returns-then-byte-eq10-clause-turn : goal.returns-then-byte-eq10-clause-turn
returns-then-byte-eq10-clause-turn c = sym (ap (after_turns c.args.pool.now) (feed_turn c.args.byte c.if-byte-eq10.true))

pub returns-then-byte-eq10-clause-few : goal.returns-then-byte-eq10-clause-few
returns-then-byte-eq10-clause-few c = λ most all. few_still c.args.pool.now.programs most all

pub overflow_sub-letter : goal.overflow_sub-letter
overflow_sub-letter c = (letter_fits (length c.args.pool.now.programs) c.args.byte c.requires.good c.if-byte-eq10.false).0

pub turn-requires-clause-there : goal.turn-requires-clause-there
turn-requires-clause-there c = omega (
  arith,
  c.from.ensures,
  (letter_fits (length c.args.pool.now.programs) c.args.byte c.requires.good c.if-byte-eq10.false).1,
)

pub turn-requires-clause-few : goal.turn-requires-clause-few
turn-requires-clause-few c =
    let there : c.from.result < length c.args.pool.now.programs =
    omega (arith, c.from.ensures, (letter_fits (length c.args.pool.now.programs) c.args.byte c.requires.good c.if-byte-eq10.false).1) in
    c.requires.few c.from.result no_program there

pub returns-clause-turn : goal.returns-clause-turn
returns-clause-turn c =
    let pool = c.args.pool.now in
    let same : after_turn pool c.from.result ≡ after_turns pool (turn_in c.args.byte) =
    ap (after_turn pool) c.from.ensures ∙ sym (ap (after_turns pool) (letter_turn c.args.byte c.if-byte-eq10.false)) in
    subst (λ (p : PoolView). OnOk c.turn.result (c.turn.new.self ≡ p)) same c.turn.ensures.turn

pub returns-clause-few : goal.returns-clause-few
returns-clause-few c =
    let there : c.from.result < length c.args.pool.now.programs =
    omega (arith, c.from.ensures, (letter_fits (length c.args.pool.now.programs) c.args.byte c.requires.good c.if-byte-eq10.false).1) in
    few_result c.turn.result c.args.pool.now c.turn.new.self c.from.result there c.turn.ensures.turn c.turn.ensures.counted
