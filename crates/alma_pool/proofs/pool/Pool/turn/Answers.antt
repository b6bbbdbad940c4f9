use Rattle.std.proofs.Common.{◌≡◌, ◌≤◌, ◌+◌, sym, ap, ◌∙◌, arith, length}
use Rattle.std.proofs.lemmas.List.{length-map}
use Rattle.alma_pool.specs.Pool.{PoolView, take_turn}
use Rattle.std.proofs.lemmas.List.Elements.{All-set}
use Rattle.alma_pool.specs.declared.pool.Player.{Player}
use Rattle.alma_pool.specs.Ready.{IsReady, played_of}
use Rattle.alma_pool.proofs.Players.{turned_view, counted_view, others_view, ok_of}
use Rattle.alma_pool.proofs.pool.Pool.turn.Goals as goal

pub invariant_of-self-else-is_err : goal.invariant_of-self-else-is_err
invariant_of-self-else-is_err c = λ whole. All-set (λ (q : Player). IsReady q.machine q.end) c.self.inside.players.items c.args.k
    c.play.new.player
    (ok_of c.play.result (IsReady c.play.new.player.machine c.play.new.player.end) (sym c.is_err.ensures.value ∙ c.if-is_err.false)
    c.play.ensures.ready) (c.self.invariant whole)

pub returns-clause-turn : goal.returns-clause-turn
returns-clause-turn c =
    let players = c.self.inside.players.items in
    let old = c.index_mut-player.result.now in
    turned_view players c.args.k old c.play.new.player c.self.inside.whole c.args.self.now c.self.view_is
    (omega (arith, c.requires.there, ap (λ (p : PoolView). length p.programs) c.self.view_is, length-map players played_of))
    c.index_mut-player.ensures.value
    (ok_of c.play.result (played_of c.play.new.player ≡ take_turn (played_of old)) (sym c.is_err.ensures.value ∙ c.if-is_err.false)
    c.play.ensures.turn)

pub returns-clause-counted : goal.returns-clause-counted
returns-clause-counted c =
    let players = c.self.inside.players.items in
    let old = c.index_mut-player.result.now in
    counted_view players c.args.k old c.play.new.player c.self.inside.whole c.args.self.now c.self.view_is
    (omega (arith, c.requires.there, ap (λ (p : PoolView). length p.programs) c.self.view_is, length-map players played_of))
    c.index_mut-player.ensures.value
    (ok_of c.play.result (c.play.new.player.machine.state.steps ≤ old.machine.state.steps + 1)
    (sym c.is_err.ensures.value ∙ c.if-is_err.false) c.play.ensures.counted)

pub returns-then-is_err-clause-others : goal.returns-then-is_err-clause-others
returns-then-is_err-clause-others c =
    let players = c.self.inside.players.items in
    others_view players c.args.k c.play.new.player c.self.inside.whole c.args.self.now c.self.view_is
    (omega (arith, c.requires.there, ap (λ (p : PoolView). length p.programs) c.self.view_is, length-map players played_of))
